-- `agreement::agree::clock_image` meets its promise: 256 words are room for any accepted deck, and what the translator leaves at their start is its image.
-- Assumes nothing.
use Rattle.std.proofs.Common.{replicate, refl, sym, arith, length-take-le}
use Rattle.deck.proofs.Accepted.{translates, words_inside, image_at_start}
use Rattle.agreement.proofs.agree.clock_image.Goals as goal

pub unwrap-count-requires : goal.unwrap-count-requires
unwrap-count-requires c =
    let t = c.translate in
    rw (translates c.args.deck.now (replicate 256 0) t.result t.new.output t.ensures c.requires (omega arith)) refl

pub slice_bounds-words-end : goal.slice_bounds-words-end
slice_bounds-words-end c =
    let t = c.translate in
    words_inside c.args.deck.now (replicate 256 0) t.result t.new.output t.ensures _ c.unwrap-count.ensures

pub slice_bounds-run-end : goal.slice_bounds-run-end
slice_bounds-run-end c =
    let t = c.translate in
    sym (length-take-le _ _ (words_inside c.args.deck.now (replicate 256 0) t.result t.new.output t.ensures _ c.unwrap-count.ensures))

pub returns : goal.returns
returns c =
    let t = c.translate in
    let w = image_at_start c.args.deck.now (replicate 256 0) t.result t.new.output t.ensures _ c.unwrap-count.ensures in
    rw (w, c.fresh.ensures) at c.run.ensures
