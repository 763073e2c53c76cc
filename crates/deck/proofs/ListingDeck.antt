-- What a listing goes by of the translation into 256 words: its number is the deck's, since a deck of more words is refused, and what it writes is the image.
-- Assumes nothing.
use Rattle.std.proofs.Common.{◌≡◌, ℕ, ◌≤◌, Bool, true, false, cond, eqb, ltb, List, [], length, get_or, take, sym, refl, ap, ◌∙◌, le-add_right, suc-ne-zero, length-append, le-ltb, eqb-true, Ok, Err}
use Rattle.chip_core.proofs.Answered.{no_zero}
use Rattle.chip_core.specs.Refusal.{accepted, check, output_too_short, number_of, NumberAndValues, number_and_values, answered}
use Rattle.chip_core.specs.declared.refusal.Refusal.{Refusal}
use Rattle.deck.specs.Deck.{deck_refusal}
use Rattle.deck.specs.Image.{total_words}
use Rattle.deck.specs.Listing.{listing_of, listing_text, ListingPromise}
use Rattle.deck.specs.Operation.{program}
use Rattle.deck.specs.Translate.{translate_refusal, starting_with, TranslatePromise}
use Rattle.deck.proofs.Accepted.{deck_accepted, image_at_start}
use Rattle.deck.proofs.Parts.{then_last}
use Rattle.deck.proofs.Sound.{sound}

first_only : (n m : ℕ) (t : Bool) → eqb n accepted ≡ t → (n ≡ accepted → m ≡ accepted) → cond t m n ≡ n
first_only n m true e f = f (eqb-true n 0 e) ∙ sym (eqb-true n 0 e)
first_only n m false e f = refl

-- with room for 256 words, 9 is never given
enough : (deck : List ℕ) → translate_refusal deck 256 ≡ deck_refusal deck
unfolding translate_refusal
enough deck =
    then_last deck (check (ltb 256 (total_words (program deck))) output_too_short)
    ∙ first_only (deck_refusal deck) _ (eqb (deck_refusal deck) accepted) refl (λ e. rw (le-ltb 256 _ (sound deck e).small))

module _ (deck output left : List ℕ) where
  -- a refused deck's text has no words
  pub text_of_refused : (refusal : Refusal) → length output ≡ 256 → TranslatePromise deck output (Err refusal) left
      → listing_of (number_of refusal) [] ≡ listing_text deck
  unfolding listing_of
  text_of_refused refusal room t =
      let number : number_of refusal ≡ deck_refusal deck = ap (λ (a : NumberAndValues ℕ). a.number) t.0 ∙ rw room (enough deck) in
      rw (sym number, no_zero refusal)

  -- an accepted deck's text has those that the translation wrote
  pub text_of_accepted : (words : ℕ) → TranslatePromise deck output (Ok words) left → listing_of accepted (take words left) ≡ listing_text deck
  text_of_accepted words t =
      rw (image_at_start deck output (Ok words) left t words refl, deck_accepted deck output (Ok words) left t words refl)

-- what a listing counts is in the output
inside_by : (text output output' : List ℕ) (count : ℕ) (t : Bool) → number_and_values (Ok count) ≡ answered (cond t output_too_short accepted) (length text)
    → output' ≡ cond (eqb (cond t output_too_short accepted) accepted) (starting_with text output) output → count ≤ length output'
inside_by text output output' count true e f = absurd (suc-ne-zero 8 (sym (ap (λ (a : NumberAndValues ℕ). a.number) e)))
inside_by text output output' count false e f =
    let same : count ≡ length text = ap (λ (a : NumberAndValues ℕ). get_or a.values 0 0) e in
    rw (same, f, length-append) (le-add_right _ _)

pub count_inside : (deck output : List ℕ) {count : ℕ} {output' : List ℕ} → ListingPromise deck output (Ok count) output' → count ≤ length output'
count_inside deck output p = inside_by (listing_text deck) output _ _ (ltb (length output) (length (listing_text deck))) p.0 p.1
