-- The lines of so many words stand at the end of the text.
use Rattle.std.proofs.Common.{◌≡◌, ◌++◌}
use Rattle.deck.specs.Listing.{word_lines}
use Rattle.deck.proofs.listing.put_word_lines.Given as goal

abbrev pub invariant-loop-address : goal.invariant-loop-address
invariant-loop-address l = l.text ≡ l.fn.text ++ word_lines l.words l.address
