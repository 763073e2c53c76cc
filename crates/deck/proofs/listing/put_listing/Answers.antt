-- `deck::listing::put_listing` meets its promise: the translation into 256 words gives the deck's number, and its words are the image.
-- Assumes nothing.
use Rattle.std.proofs.Common.{ℕ, List, replicate, refl, ◌∙◌, arith, length-take}
use Rattle.deck.proofs.Accepted.{words_inside}
use Rattle.deck.proofs.ListingDeck.{text_of_refused, text_of_accepted}
use Rattle.deck.proofs.listing.put_listing.Goals as goal

-- the words that are lent
abbrev lent : List ℕ
lent = replicate 256 0

pub slice_bounds-image-end : goal.slice_bounds-image-end
slice_bounds-image-end c = words_inside c.args.deck.now lent _ _ c.in-Ok.ensures c.in-Ok.words refl

pub slice_bounds-put_words-end : goal.slice_bounds-put_words-end
slice_bounds-put_words-end c =
    let h = words_inside c.args.deck.now lent _ c.translate.new.output c.in-Ok.ensures c.in-Ok.words refl in
    omega (arith, length-take c.in-Ok.words c.translate.new.output)

pub returns-in-Ok : goal.returns-in-Ok
returns-in-Ok c = c.put_words.ensures ∙ text_of_accepted c.args.deck.now lent _ c.in-Ok.words c.in-Ok.ensures

pub returns-in-Err : goal.returns-in-Err
returns-in-Err c = c.put_refusal.ensures ∙ text_of_refused c.args.deck.now lent _ c.in-Err.refusal (omega arith) c.in-Err.ensures
