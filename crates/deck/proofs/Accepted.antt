-- What the translator's and the line runner's promises say of an accepted deck: where the output has room, its start is the image; and sixteen cells are run.
-- Assumes nothing.
use Rattle.std.proofs.Common.{◌≡◌, ℕ, ◌≤◌, false, eqb, List, [], ◌∷◌, length, take, sym, ap, ◌∙◌, le-add_right, arith, length-append, le-ltb, Result, Ok}
use Rattle.chip_core.proofs.Answered.{is_ok}
use Rattle.chip_core.specs.Refusal.{accepted, not_sixteen_cells, NumberAndValues, refusal_number}
use Rattle.chip_core.specs.declared.refusal.Refusal.{Refusal}
use Rattle.deck.specs.Bytes.{line_count}
use Rattle.deck.specs.Deck.{deck_refusal}
use Rattle.deck.specs.Image.{total_words, image}
use Rattle.deck.specs.Lines.{LinesPromise, LineState, after_lines, at_start, ran_as, lines_of, clocks_of, lines_refusal}
use Rattle.deck.specs.Operation.{program, Program}
use Rattle.deck.specs.Translate.{TranslatePromise, translate_refusal, starting_with}
use Rattle.deck.specs.declared.lines.LinesRun.{LinesRun}
use Rattle.deck.proofs.Addresses.{image_length}
use Rattle.deck.proofs.Parts.{then_last, both, or_else}
use Rattle.deck.proofs.Sound.{sound}
use Rattle.deck.proofs.Writing.{taken}

module _ (deck output : List ℕ) (translated : Result ℕ Refusal) (left : List ℕ) (t : TranslatePromise deck output translated left) where
  -- 256 words are room for any deck
  pub translates : deck_refusal deck ≡ accepted → 256 ≤ length output → translated ≡ Ok (total_words (program deck))
  unfolding translate_refusal
  translates ok room =
      let small = (sound deck ok).small in
      let number : translate_refusal deck (length output) ≡ accepted = then_last deck _ ∙ rw (ok, le-ltb (length output) (total_words (program deck)) (omega arith)) in
      is_ok translated _ (rw number at t.0)

  module _ (words : ℕ) (ok : translated ≡ Ok words) where
    not_refused : translate_refusal deck (length output) ≡ accepted
    not_refused = ap (λ (a : NumberAndValues ℕ). a.number) (sym (rw ok at t.0))

    pub deck_accepted : deck_refusal deck ≡ accepted
    unfolding translate_refusal
    deck_accepted = (both _ _ (sym (then_last deck _) ∙ not_refused)).0

    count : words ≡ length (image (program deck))
    count =
        let values : words ∷ [] ≡ total_words (program deck) ∷ [] = ap (λ (a : NumberAndValues ℕ). a.values) (rw (ok, not_refused) at t.0) in
        let total : words ≡ total_words (program deck) = cc in
        total ∙ sym (image_length (program deck) (line_count deck))

    begins : left ≡ starting_with (image (program deck)) output
    begins = t.1 ∙ rw not_refused

    pub words_inside : words ≤ length left
    words_inside = rw (count, begins, length-append) (le-add_right _ _)

    pub image_at_start : take words left ≡ image (program deck)
    image_at_start = rw (count, begins) (taken (image (program deck)) output)

module _ (asked : ℕ) (deck cells : List ℕ) (answer : Result LinesRun Refusal) (left : List ℕ) (l : LinesPromise asked deck cells answer left) where
  pub lines_number : refusal_number answer ≡ lines_refusal deck (length cells)
  lines_number = ap (λ (a : NumberAndValues LinesRun). a.number) l.0

  pub lines_accepted : refusal_number answer ≡ accepted → deck_refusal deck ≡ accepted
  unfolding lines_refusal
  lines_accepted ok = (both _ _ (sym (then_last deck _) ∙ sym lines_number ∙ ok)).0

pub lines_as : (asked : ℕ) (deck cells : List ℕ) (answer : Result LinesRun Refusal) (left : List ℕ) → deck_refusal deck ≡ accepted → length cells ≡ 16
    → LinesPromise asked deck cells answer left → let p : Program = program deck in
    let end : LineState = after_lines p asked (at_start cells) in
    (answer ≡ Ok (ran_as p (lines_of p asked (at_start cells)) (clocks_of p asked (at_start cells)) end)) × (left ≡ end.sees.cells)
unfolding lines_refusal
lines_as asked deck cells answer left ok sixteen l =
    let number : lines_refusal deck (length cells) ≡ accepted = then_last deck _ ∙ rw (ok, sixteen) in
    let a = (rw number at l) in
    (is_ok answer _ a.0, a.1)

-- without sixteen cells, what the deck does not break is 12
pub not_sixteen : (deck : List ℕ) (count : ℕ) → eqb count 16 ≡ false → lines_refusal deck count ≡ or_else (deck_refusal deck) not_sixteen_cells
unfolding lines_refusal
not_sixteen deck count e = then_last deck _ ∙ rw e
