-- The test `in_range` as facts about the fields: each is below the first power that its bits do not reach. What is cut from a word is so always.
-- Assumes nothing.
use Rattle.std.proofs.Common.{◌≡◌, ℕ, ◌^◌, ◌<◌, Bool, true, false, ◌&&◌, refl, arith, ltb-true, lt-ltb}
use Rattle.chip_core.specs.Word.{fits, in_range, instruction_at}
use Rattle.chip_core.specs.declared.word.Instruction.{Instruction}
use Rattle.chip_core.specs.declared.word.Instruction.TheVariants.{S, Goto, M, JumpIf, I}
use Rattle.chip_core.proofs.Kind.{Kind, is_s, is_goto, is_m, is_jump_if, is_i, kind, at_s, at_goto, at_m, at_jump_if, at_i}

abbrev pub FieldsFit : Instruction → Type 0
FieldsFit (S k) = k < 2 ^ 8
FieldsFit (Goto target) = target.0 < 2 ^ 8
FieldsFit (M d mode cell) = (d < 2 ^ 1) × (mode < 2 ^ 4) × (cell.0 < 2 ^ 4)
FieldsFit (JumpIf f target) = (f < 2 ^ 2) × (target.0 < 2 ^ 8)
FieldsFit (I mode immediate) = (mode < 2 ^ 3) × (immediate < 2 ^ 8)

both : (p q : Bool) → (p && q) ≡ true → (p ≡ true) × (q ≡ true)
both true q e = (refl, e)
both false q e = let z : ◌≡◌ {A = ℕ} 0 1 = cc in absurd (omega arith)

fitting : (width field : ℕ) → fits width field ≡ true → field < 2 ^ width
fitting width field e = ltb-true field (2 ^ width) e

two : (v w x y : ℕ) → (fits v x && fits w y) ≡ true → (x < 2 ^ v) × (y < 2 ^ w)
two v w x y e = let h = both (fits v x) (fits w y) e in (fitting v x h.0, fitting w y h.1)

pub fields_fit : (i : Instruction) → in_range i ≡ true → FieldsFit i
unfolding in_range
fields_fit (S k) e = fitting 8 k e
fields_fit (Goto target) e = fitting 8 target.0 e
fields_fit (M d mode cell) e =
    let h = both (fits 1 d && fits 4 mode) (fits 4 cell.0) e in
    let g = two 1 4 d mode h.0 in
    (g.0, g.1, fitting 4 cell.0 h.1)
fields_fit (JumpIf f target) e = two 2 8 f target.0 e
fields_fit (I mode immediate) e = two 3 8 mode immediate e

-- and back: fields that fit pass the test
pub in_range_lem : (i : Instruction) → FieldsFit i → in_range i ≡ true
unfolding in_range
in_range_lem (S k) h = rw (lt-ltb k _ h)
in_range_lem (Goto target) h = rw (lt-ltb target.0 _ h)
in_range_lem (M d mode cell) h = rw (lt-ltb d _ h.0, lt-ltb mode _ h.1, lt-ltb cell.0 _ h.2)
in_range_lem (JumpIf f target) h = rw (lt-ltb f _ h.0, lt-ltb target.0 _ h.1)
in_range_lem (I mode immediate) h = rw (lt-ltb mode _ h.0, lt-ltb immediate _ h.1)

-- the same, where the instruction is known by its kind
pub fields_fit_as : (i j : Instruction) → i ≡ j → in_range i ≡ true → FieldsFit j
fields_fit_as i j e h = fields_fit j (rw e at h)

-- what stands at any word fits, since each field is cut to its bits
pub cut_fits : (word : ℕ) → FieldsFit (instruction_at word)
cut_fits word = go (kind word)
  where
    go : Kind word → FieldsFit (instruction_at word)
    go (is_s e) = rw (at_s word e) (omega arith)
    go (is_goto e) = rw (at_goto word e) (omega arith)
    go (is_m lo hi) = rw (at_m word lo hi) (omega arith, omega arith, omega arith)
    go (is_jump_if lo hi) = rw (at_jump_if word lo hi) (omega arith, omega arith)
    go (is_i lo) = rw (at_i word lo) (omega arith, omega arith)

pub cut_fits_as : (word : ℕ) (i : Instruction) → instruction_at word ≡ i → FieldsFit i
cut_fits_as word i e = rw e at (cut_fits word)
