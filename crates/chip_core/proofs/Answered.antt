-- An answer is known by its number and values: a refusal is known by its number, which is never that of an accepted call. And what the encoder and the unit
-- answer where nothing is refused.
-- Assumes nothing.
use Rattle.std.proofs.Common.{◌≡◌, ◌≢◌, ℕ, ◌<◌, true, false, cond, eqb, ne_eqb, get_or, sym, ap, refl, ◌∙◌, arith, le-ltb, Result, Ok, Err}
use Rattle.chip_core.specs.Refusal.{accepted, number_of, NumberAndValues, number_and_values, refusal_number, answered}
use Rattle.chip_core.specs.Unit.{unit_result, unit_flags, computed, computed_as}
use Rattle.chip_core.specs.Word.{in_range, word_of, encoded}
use Rattle.chip_core.specs.declared.refusal.Refusal.{Refusal}
use Rattle.chip_core.specs.declared.refusal.Refusal.TheVariants.{DeckTooShort, BytesAfterLines, LinesAbove256, LabelNotBelowLines, OperationAbove27, SecondByteNotAllowed, OperandNotAllowed, WordsAbove256, OutputTooShort, WordAbove4095, ImageAbove256Words, NotSixteenCells, RegisterOutOfRange, FieldOutOfRange, FetchNotNext}
use Rattle.chip_core.specs.declared.word.Instruction.{Instruction}

-- the refusal with a number
refusal_with : ℕ → Refusal
refusal_with n =
    cond (eqb n 1) DeckTooShort
    (cond (eqb n 2) BytesAfterLines
    (cond (eqb n 3) LinesAbove256
    (cond (eqb n 4) LabelNotBelowLines
    (cond (eqb n 5) OperationAbove27
    (cond (eqb n 6) SecondByteNotAllowed
    (cond (eqb n 7) OperandNotAllowed
    (cond (eqb n 8) WordsAbove256
    (cond (eqb n 9) OutputTooShort
    (cond (eqb n 10) WordAbove4095
    (cond (eqb n 11) ImageAbove256Words
    (cond (eqb n 12) NotSixteenCells
    (cond (eqb n 13) RegisterOutOfRange
    (cond (eqb n 14) FieldOutOfRange
    FetchNotNext)))))))))))))

its_own : (refusal : Refusal) → refusal_with (number_of refusal) ≡ refusal
unfolding refusal_with
its_own DeckTooShort = refl
its_own BytesAfterLines = refl
its_own LinesAbove256 = refl
its_own LabelNotBelowLines = refl
its_own OperationAbove27 = refl
its_own SecondByteNotAllowed = refl
its_own OperandNotAllowed = refl
its_own WordsAbove256 = refl
its_own OutputTooShort = refl
its_own WordAbove4095 = refl
its_own ImageAbove256Words = refl
its_own NotSixteenCells = refl
its_own RegisterOutOfRange = refl
its_own FieldOutOfRange = refl
its_own FetchNotNext = refl

-- two refusals with one number are one
pub by_number : (x y : Refusal) → number_of x ≡ number_of y → x ≡ y
by_number x y e = sym (its_own x) ∙ ap refusal_with e ∙ its_own y

-- and none has that of an accepted call
pub not_zero : (x : Refusal) → number_of x ≢ accepted
unfolding refusal_with
not_zero x e = let z : x ≡ FetchNotNext = sym (its_own x) ∙ ap refusal_with e in let n : ◌≡◌ {A = ℕ} 33 0 = rw z at e in absurd (omega arith)

pub no_zero : (x : Refusal) → eqb (number_of x) accepted ≡ false
no_zero x = ne_eqb (number_of x) 0 (not_zero x)

-- NUMBER AND VALUES tell answers apart
pub same : {A : Type 0} (r s : Result A Refusal) → number_and_values r ≡ number_and_values s → r ≡ s
same {A = A} r s e = go r s (ap (λ (a : NumberAndValues A). a.number) e) (ap (λ (a : NumberAndValues A). a.values) e)
  where
    go : (r s : Result A Refusal) → (number_and_values r).number ≡ (number_and_values s).number
        → (number_and_values r).values ≡ (number_and_values s).values → r ≡ s
    go (Ok x) (Ok y) e f = cc
    go (Ok x) (Err n) e f = cc
    go (Err m) (Ok y) e f = cc
    go (Err m) (Err n) e f = ap Err (by_number m n e)

-- and where there is no value to tell, the number alone does
pub refused_alike : (r s : Result Unit Refusal) → refusal_number r ≡ refusal_number s → r ≡ s
refused_alike (Ok x) (Ok y) e = refl
refused_alike (Ok x) (Err n) e = absurd (not_zero n (sym e))
refused_alike (Err m) (Ok y) e = absurd (not_zero m e)
refused_alike (Err m) (Err n) e = ap Err (by_number m n e)

-- an answer that is accepted with a value
pub is_ok : {A : Type 0} (r : Result A Refusal) (x : A) → number_and_values r ≡ answered accepted x → r ≡ Ok x
is_ok r x e = same r (Ok x) e

-- and what such an answer tells: an accepted one that its number is that of an accepted call, and its value, and a refused one its number
pub accepted_tells : {A : Type 0} (number : ℕ) (x y : A) → number_and_values (Ok y) ≡ answered number x → (number ≡ accepted) × (y ≡ x)
accepted_tells {A = A} number x y e =
    let z : number ≡ accepted = sym (ap (λ (a : NumberAndValues A). a.number) e) in
    (z, ap (λ (a : NumberAndValues A). get_or a.values 0 y) (rw z at e))

pub refused_tells : {A : Type 0} (number : ℕ) (x : A) (refusal : Refusal) → number_and_values {A = A} (Err refusal) ≡ answered number x → number_of refusal ≡ number
refused_tells {A = A} number x refusal e = ap (λ (a : NumberAndValues A). a.number) e

-- an instruction in range is encoded as its word
pub encoded_in_range : (i : Instruction) → in_range i ≡ true → encoded i ≡ answered accepted (word_of i)
unfolding encoded
encoded_in_range i e = rw e

-- a mode and an SR in range are computed by their row
pub computed_in_range : (mode a b sr : ℕ) → mode < 16 → sr < 16
    → computed mode a b sr ≡ answered accepted (computed_as (unit_result mode a b) (unit_flags mode a b sr))
unfolding computed
computed_in_range mode a b sr h k = rw (le-ltb 15 mode (omega arith), le-ltb 15 sr (omega arith))

-- two accepted answers that are equal have one value
pub ok_is : {A : Type 0} {x y : A} → ◌≡◌ {A = Result A Refusal} (Ok x) (Ok y) → x ≡ y
ok_is e = cc
