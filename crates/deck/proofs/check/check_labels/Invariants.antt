-- The labels before the one that the loop has come to have passed.
use Rattle.std.proofs.Common.{◌≡◌}
use Rattle.chip_core.specs.Refusal.{accepted, first_broken}
use Rattle.deck.specs.Deck.{each, checks_of_label}
use Rattle.deck.proofs.check.check_labels.Given as goal

abbrev pub invariant-loop-label : goal.invariant-loop-label
invariant-loop-label l = first_broken (each (checks_of_label l.deck.bytes.now) l.label) ≡ accepted
