-- What is counted so far is the address of the line that the loop has come to.
use Rattle.std.proofs.Common.{◌≡◌, ◌*◌, ◌≤◌}
use Rattle.deck.specs.Image.{address}
use Rattle.deck.specs.Operation.{program}
use Rattle.deck.proofs.decks.CompleteDeck.address_of.Given as goal

abbrev pub invariant-loop-before : goal.invariant-loop-before
invariant-loop-before l = (l.counted ≤ 2 * l.before) × (l.counted ≡ address (program l.self.bytes.now) l.before)
