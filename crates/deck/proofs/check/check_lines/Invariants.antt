-- The lines before the one that the loop has come to have passed.
use Rattle.std.proofs.Common.{◌≡◌}
use Rattle.chip_core.specs.Refusal.{accepted, first_broken}
use Rattle.deck.specs.Deck.{each, checks_of_line}
use Rattle.deck.proofs.check.check_lines.Given as goal

abbrev pub invariant-loop-line : goal.invariant-loop-line
invariant-loop-line l = first_broken (each (checks_of_line l.deck.bytes.now) l.line) ≡ accepted
