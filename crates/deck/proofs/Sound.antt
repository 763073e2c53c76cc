-- What is known of an accepted deck: it is complete, its labels are lines, each of its lines is one that the table allows, and its words fit.
-- Assumes nothing.
use Rattle.std.proofs.Common.{◌≡◌, ℕ, suc, ◌<◌, ◌≤◌, Bool, true, false, cond, not, eqb, ltb, List, length, sym, refl, ◌∙◌, arith, ltb-false, ltb-true}
use borrow.Author.Tests.{not-false}
use Rattle.chip_core.proofs.Order.{passed}
use Rattle.chip_core.specs.Refusal.{accepted, first_broken}
use Rattle.deck.specs.Bytes.{label_count, label_line, line_count, line_count_at, record_at, operation_byte, second_byte, operand_byte}
use Rattle.deck.specs.Deck.{layout_checks, checks_of_label, checks_of_line, deck_refusal}
use Rattle.deck.specs.Image.{total_words}
use Rattle.deck.specs.Operation.{row_of, operation_at, program}
use Rattle.deck.specs.Layout.{Complete}
use Rattle.deck.specs.Private.{Fits, Lands}
use Rattle.deck.specs.Records.{line_refusal}
use Rattle.deck.proofs.Parts.{in_order, each_passed, of_label, of_line, both}

-- the first five checks passed
pub complete : (deck : List ℕ) → first_broken (layout_checks deck) ≡ accepted → Complete deck
complete deck e =
    let a = passed (ltb (length deck) (line_count_at deck)) 0 _ e in
    let b = passed (ltb (length deck) (record_at deck 0)) 0 _ a.1 in
    let c = passed (ltb 256 (line_count deck)) 2 _ b.1 in
    let d = passed (ltb (length deck) (record_at deck (line_count deck))) 0 _ c.1 in
    let f = passed (ltb (record_at deck (line_count deck)) (length deck)) 1 _ d.1 in
    let most = ltb-false (length deck) (record_at deck (line_count deck)) d.0 in
    let least = ltb-false (record_at deck (line_count deck)) (length deck) f.0 in
    record { few = ltb-false 256 (line_count deck) c.0; ends = omega arith }

pub record Sound (deck : List ℕ) : Type 0 where
  pub whole : Complete deck
  pub labels : (label : ℕ) → label < label_count deck → label_line deck label < line_count deck
  pub lines : (line : ℕ) → line < line_count deck → line_refusal deck line ≡ accepted
  pub small : total_words (program deck) ≤ 256

below : (a b n y : ℕ) → cond (not (ltb a b)) (suc n) y ≡ 0 → (a < b) × (y ≡ 0)
below a b n y e = let p = passed (not (ltb a b)) n y e in (ltb-true a b (not-false _ p.0), p.1)

pub sound : (deck : List ℕ) → deck_refusal deck ≡ accepted → Sound deck
unfolding line_refusal
sound deck e =
    let a = both _ _ (sym (in_order deck) ∙ e) in
    let b = both _ _ a.1 in
    let c = both _ _ b.1 in
    record {
      whole = complete deck a.0;
      labels = λ label h.
          (below (label_line deck label) (line_count deck) 3 _
          (each_passed (checks_of_label deck) (of_label deck) (label_count deck) b.0 label h)).0;
      lines = λ line h. each_passed (checks_of_line deck) (of_line deck) (line_count deck) c.0 line h;
      small = ltb-false 256 (total_words (program deck)) (passed (ltb 256 (total_words (program deck))) 7 _ c.1).0;
    }

-- a line within the bounds of its row is one that the table allows
fits_by : (deck : List ℕ) (operation second operand : ℕ) (m i g j u : Bool) → ltb operation 16 ≡ m → ltb operation 24 ≡ i → eqb operation 24 ≡ g
    → eqb operation 25 ≡ j → eqb operation 26 ≡ u → second < (row_of deck operation).seconds → operand < (row_of deck operation).operands
    → Fits ((row_of deck operation).means second operand)
unfolding row_of
fits_by deck operation second operand true i g j u a b c d e s o = rw a ((rw a at s), ltb-true operation 16 a, (rw a at o))
fits_by deck operation second operand false true g j u a b c d e s o =
    let k = ltb-true operation 24 b in
    rw (a, b) (omega arith, (rw (a, b) at o))
fits_by deck operation second operand false false true j u a b c d e s o = rw (a, b, c) tt
fits_by deck operation second operand false false false true u a b c d e s o = rw (a, b, c, d) (rw (a, b, c, d) at s)
fits_by deck operation second operand false false false false true a b c d e s o = rw (a, b, c, d, e) (rw (a, b, c, d, e) at s)
fits_by deck operation second operand false false false false false a b c d e s o = rw (a, b, c, d, e) tt

lands_by : (deck : List ℕ) (n operation second operand : ℕ) (m i g j u : Bool) → ltb operation 16 ≡ m → ltb operation 24 ≡ i → eqb operation 24 ≡ g
    → eqb operation 25 ≡ j → eqb operation 26 ≡ u → ((label : ℕ) → label < label_count deck → label_line deck label < n)
    → operand < (row_of deck operation).operands → Lands n ((row_of deck operation).means second operand)
unfolding row_of
lands_by deck n operation second operand true i g j u a b c d e l o = rw a tt
lands_by deck n operation second operand false true g j u a b c d e l o = rw (a, b) tt
lands_by deck n operation second operand false false true j u a b c d e l o = rw (a, b, c) (l operand (rw (a, b, c) at o))
lands_by deck n operation second operand false false false true u a b c d e l o = rw (a, b, c, d) (l operand (rw (a, b, c, d) at o))
lands_by deck n operation second operand false false false false true a b c d e l o = rw (a, b, c, d, e) (l operand (rw (a, b, c, d, e) at o))
lands_by deck n operation second operand false false false false false a b c d e l o = rw (a, b, c, d, e) tt

module _ (deck : List ℕ) (s : Sound deck) (line : ℕ) (h : line < line_count deck) where
  within : (second_byte deck line < (row_of deck (operation_byte deck line)).seconds) × (operand_byte deck line < (row_of deck (operation_byte deck line)).operands)
  unfolding line_refusal
  within =
      let a = passed (ltb 27 (operation_byte deck line)) 4 _ (s.lines line h) in
      let b = below (second_byte deck line) (row_of deck (operation_byte deck line)).seconds 5 _ a.1 in
      let c = below (operand_byte deck line) (row_of deck (operation_byte deck line)).operands 6 _ b.1 in
      (b.0, c.0)

  pub line_fits : Fits (operation_at deck line)
  unfolding operation_at
  line_fits = fits_by deck _ _ _ _ _ _ _ _ refl refl refl refl refl within.0 within.1

  pub line_lands : Lands (line_count deck) (operation_at deck line)
  unfolding operation_at
  line_lands = lands_by deck _ _ _ _ _ _ _ _ _ refl refl refl refl refl s.labels within.1
