-- `deck::listing::put_word_lines` meets its promise: each line has seven bytes, so there is room for the next, and it comes after those before it (`next_line`).
-- Assumes nothing.
use Rattle.std.proofs.Common.{length, ap, arith, length-append}
use Rattle.deck.specs.Listing.{word_lines}
use Rattle.deck.proofs.ListingText.{lines_length}
use Rattle.deck.proofs.listing.put_word_lines.Goals as goal

pub put_word_line-requires : goal.put_word_line-requires
put_word_line-requires c =
    let words = c.args.words.now in
    let text = c.args.text.now in
    let l = c.loop-address in
    omega (arith, ap length l.invariant, length-append text (word_lines words l.address), lines_length words l.address)
