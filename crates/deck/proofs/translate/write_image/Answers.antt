-- `deck::translate::write_image` meets its promise: the words of the lines so far stand at the start of the output, and the next line's come after them.
-- Assumes nothing.
use Rattle.std.proofs.Common.{ℕ, ◌≤◌, List, length, sym, refl, ap, ◌∙◌, le_trans, add-one, arith}
use Rattle.deck.specs.Bytes.{line_count}
use Rattle.deck.specs.Image.{address, total_words, image_up_to}
use Rattle.deck.specs.Operation.{program}
use Rattle.deck.proofs.Addresses.{address_le, image_length}
use Rattle.deck.proofs.LineCode.{next_written}
use Rattle.deck.proofs.translate.write_image.Goals as goal

pub loop-line-init : goal.loop-line-init
unfolding address image_up_to
loop-line-init c = (refl, refl)

-- the words of the lines so far fit in the output
fits : (deck output : List ℕ) (line : ℕ) → line ≤ line_count deck → total_words (program deck) ≤ length output
    → length (image_up_to (program deck) line) ≤ length output
fits deck output line h w = rw (image_length (program deck) line) (le_trans (address_le (program deck) line (line_count deck) h) w)

pub loop-line-preserved : goal.loop-line-preserved
loop-line-preserved c =
    let l = c.loop-line in
    let w = c.write_line-here.ensures in
    let deck = c.args.deck.bytes.now in
    let h : l.line ≤ line_count deck = omega (arith, c.line_count-line-end.ensures) in
    let room = fits deck c.args.output.now l.line h c.requires in (
      w.0 ∙ ap (address (program deck)) (sym (add-one l.line)),
      next_written (program deck) l.line l.here c.args.output.now l.output _ room l.invariant.0 l.invariant.1 w.1,
    )
