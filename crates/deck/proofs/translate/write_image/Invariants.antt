-- The words of the lines so far stand at the start of the output, and the next line's come after them.
use Rattle.std.proofs.Common.{◌≡◌}
use Rattle.deck.specs.Image.{address, image_up_to}
use Rattle.deck.specs.Operation.{program}
use Rattle.deck.specs.Translate.{starting_with}
use Rattle.deck.proofs.translate.write_image.Given as goal

abbrev pub invariant-loop-line : goal.invariant-loop-line
invariant-loop-line l =
    (l.here ≡ address (program l.deck.bytes.now) l.line) × (l.output ≡ starting_with (image_up_to (program l.deck.bytes.now) l.line) l.fn.output)
