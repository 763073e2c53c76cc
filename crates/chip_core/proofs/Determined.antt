-- Any two results that a promise allows are equal, for every public function of this crate: each promise names the answer, or its number and values,
-- and the final content of what is lent.
-- Assumes nothing.
use Rattle.std.proofs.Common.{◌≡◌, ℕ, Bool, List, sym, ◌∙◌, Result}
use Rattle.chip_core.specs.Clock.{ClockPromise, ClockInPlacePromise, RunPromise}
use Rattle.chip_core.specs.Control.{RowPromise}
use Rattle.chip_core.specs.Instruction.{InstructionPromise}
use Rattle.chip_core.specs.Machine.{State, FreshPromise, Answers}
use Rattle.chip_core.specs.Refusal.{NumberPromise}
use Rattle.chip_core.specs.Unit.{UnitPromise}
use Rattle.chip_core.specs.Word.{FlagPromise, DecodePromise, EncodePromise}
use Rattle.chip_core.specs.declared.control.ControlRow.{ControlRow}
use Rattle.chip_core.specs.declared.control.Stage.{Stage}
use Rattle.chip_core.specs.declared.machine.Machine.{Machine}
use Rattle.chip_core.specs.declared.refusal.Refusal.{Refusal}
use Rattle.chip_core.specs.declared.unit.Computed.{Computed}
use Rattle.chip_core.specs.declared.word.Instruction.{Instruction}
use Rattle.chip_core.proofs.Answered.{same, refused_alike}

-- the number of a refusal
pub number_determined : (refusal : Refusal) (r s : ℕ) → NumberPromise refusal r → NumberPromise refusal s → r ≡ s
number_determined refusal r s p q = p ∙ sym q

pub decode_determined : (word : ℕ) (r s : Result Instruction Refusal) → DecodePromise word r → DecodePromise word s → r ≡ s
decode_determined word r s p q = same r s (p ∙ sym q)

pub encode_determined : (i : Instruction) (r s : Result ℕ Refusal) → EncodePromise i r → EncodePromise i s → r ≡ s
encode_determined i r s p q = same r s (p ∙ sym q)

pub flag_determined : (f sr : ℕ) (r s : Bool) → FlagPromise f sr r → FlagPromise f sr s → r ≡ s
flag_determined f sr r s p q = p ∙ sym q

pub unit_determined : (mode a b sr : ℕ) (r s : Result Computed Refusal) → UnitPromise mode a b sr r → UnitPromise mode a b sr s → r ≡ s
unit_determined mode a b sr r s p q = same r s (p ∙ sym q)

pub row_determined : (word : ℕ) (stage : Stage) (sr : ℕ) (r s : Result ControlRow Refusal) → RowPromise word stage sr r → RowPromise word stage sr s → r ≡ s
row_determined word stage sr r s p q = same r s (p ∙ sym q)

pub fresh_determined : (r s : Machine) → FreshPromise r → FreshPromise s → r ≡ s
fresh_determined r s p q = p ∙ sym q

-- a call over a machine: its answer, and the cells that are left
same_call : (number : ℕ) (before after : State) (r s : Result Machine Refusal) (left right : List ℕ)
    → Answers number before after r left → Answers number before after s right → (r ≡ s) × (left ≡ right)
same_call number before after r s left right p q = (same r s (p.0 ∙ sym q.0), p.1 ∙ sym q.1)

module _ (machine : Machine) (image cells : List ℕ) (r s : Result Machine Refusal) (left right : List ℕ) where
  pub run_determined : (clocks : ℕ) → RunPromise clocks machine image cells r left → RunPromise clocks machine image cells s right
      → (r ≡ s) × (left ≡ right)
  run_determined clocks p q = same_call _ _ _ r s left right p q

  pub clock_determined : ClockPromise machine image cells r left → ClockPromise machine image cells s right → (r ≡ s) × (left ≡ right)
  clock_determined p q = same_call _ _ _ r s left right p q

  pub instruction_determined : InstructionPromise machine image cells r left → InstructionPromise machine image cells s right
      → (r ≡ s) × (left ≡ right)
  instruction_determined p q = same_call _ _ _ r s left right p q

-- of a machine that is lent: the answer, the machine that is left in its place, and the cells
pub clock_in_place_determined : (machine : Machine) (image cells : List ℕ) (r s : Result Unit Refusal) (left right : Machine) (after over : List ℕ)
    → ClockInPlacePromise machine image cells r left after → ClockInPlacePromise machine image cells s right over
    → (r ≡ s) × (left ≡ right) × (after ≡ over)
clock_in_place_determined machine image cells r s left right after over p q =
    (refused_alike r s (p.0 ∙ sym q.0), p.1 ∙ sym q.1, p.2 ∙ sym q.2)
