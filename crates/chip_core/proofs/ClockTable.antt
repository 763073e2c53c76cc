-- Laws of the clock table. Enables and selects of a row go by its stage and bits 11..8 of its word, but for a jump that is taken, so that one computed
-- test of 3 times 16 entries settles the constant table; and the unit is never given a mode above 15.
-- Assumes nothing.
use Rattle.std.proofs.Common.{◌≡◌, ℕ, zero, suc, ◌+◌, ◌-◌, ◌*◌, ◌/◌, ◌%◌, ◌^◌, ◌<◌, Bool, true, false, cond, not, ◌&&◌, ◌||◌, T, eqb, List, get_or, refl, ap, ◌∙◌, arith, lit<, eqb→eq}
use Rattle.chip_core.specs.Clock.{operand, result_out, flags_out}
use Rattle.chip_core.specs.Control.{stage_number, row_with, enabled, acc_e, sr_e, ir_e, dr_e, dmem_we, decode_row, enables_of_m, row_of, control_row}
use Rattle.chip_core.specs.Rule.{Act, Pass, Go, OnCell, GoIf, OnImmediate, act_of}
use Rattle.chip_core.specs.Refusal.{accepted, answered}
use Rattle.chip_core.specs.Unit.{one_if, unit_result, unit_flags, computed, computed_as}
use Rattle.chip_core.specs.Word.{bits, is_set, instruction_at, flag}
use Rattle.chip_core.specs.declared.control.ControlRow.{ControlRow}
use Rattle.chip_core.specs.declared.control.Stage.{Stage}
use Rattle.chip_core.specs.declared.control.Stage.TheVariants.{Fetch, Decode, Execute}
use Rattle.chip_core.specs.declared.machine.Machine.{Machine}
use Rattle.chip_core.specs.declared.word.Instruction.{Instruction}
use Rattle.chip_core.specs.declared.word.Instruction.TheVariants.{S, Goto, M, JumpIf, I}
use Rattle.chip_core.proofs.Answered.{computed_in_range}
use Rattle.chip_core.proofs.Finite.{left as left-of, right as right_of, each, all_pairs, each_pair}
use Rattle.chip_core.proofs.Kind.{Kind, is_s, is_goto, is_m, is_jump_if, is_i, kind, at_s, at_goto, at_m, at_jump_if, at_i}
use Rattle.chip_core.proofs.Range.{FieldsFit, cut_fits}

abbrev stage_at : ℕ → Stage
stage_at zero = Fetch
stage_at (suc zero) = Decode
stage_at (suc (suc n)) = Execute

-- an entry is right for a row: enables, MUX1 and MUX2
abbrev pub Right : ℕ → ControlRow → Type 0
Right entry r = (entry / 4 ≡ r.enables) × (entry / 2 % 2 ≡ r.mux1) × (entry % 2 ≡ r.mux2)

-- as a test
abbrev right : ℕ → ControlRow → Bool
right entry r = eqb (entry / 4) r.enables && (eqb (entry / 2 % 2) r.mux1 && eqb (entry % 2) r.mux2)

tested : (entry : ℕ) (r : ControlRow) → T (right entry r) → Right entry r
tested entry r t =
    let rest = right_of (eqb (entry / 4) r.enables) _ t in (
      eqb→eq (entry / 4) r.enables (left-of (eqb (entry / 4) r.enables) _ t),
      eqb→eq (entry / 2 % 2) r.mux1 (left-of (eqb (entry / 2 % 2) r.mux1) _ rest),
      eqb→eq (entry % 2) r.mux2 (right_of (eqb (entry / 2 % 2) r.mux1) _ rest),
    )

-- at every entry of a table, by the number of its stage and bits 11..8
abbrev right_at : List ℕ → ℕ → ℕ → Bool
right_at table stage top = right (get_or table (stage * 16 + top) 0) (control_row (top * 2 ^ 8) (stage_at stage) 0)

pub at_entry : (table : List ℕ) (stage : Stage) (top : ℕ) → top < 16 → T (all_pairs (right_at table) 3 16)
    → Right (get_or table (stage_number stage * 16 + top) 0) (control_row (top * 2 ^ 8) stage 0)
at_entry table Fetch k h t = tested _ (control_row (k * 2 ^ 8) Fetch 0) (each_pair (right_at table) 3 16 t 0 k (lit< tt) h)
at_entry table Decode k h t = tested _ (control_row (k * 2 ^ 8) Decode 0) (each_pair (right_at table) 3 16 t 1 k (lit< tt) h)
at_entry table Execute k h t = tested _ (control_row (k * 2 ^ 8) Execute 0) (each_pair (right_at table) 3 16 t 2 k (lit< tt) h)

-- with no flag set, these columns are those of bits 11..8 alone
module _ (word : ℕ) where
  abbrev alone : ℕ
  alone = bits 11 8 word * 2 ^ 8

  same_d : bits 8 8 alone ≡ bits 8 8 word
  same_d = omega arith

  same_f : bits 9 8 alone ≡ bits 9 8 word
  same_f = omega arith

  pub by_top : (entry : ℕ) (stage : Stage) → Right entry (control_row alone stage 0) → Right entry (control_row word stage 0)
  unfolding control_row
  by_top entry stage = go (kind word) stage
    where
      go : Kind word → (stage : Stage) → Right entry (control_row alone stage 0) → Right entry (control_row word stage 0)
      go k Fetch r = r
      go (is_s e) Decode r = rw (at_s word e) (rw (at_s alone (omega arith)) at r)
      go (is_s e) Execute r = rw (at_s word e) (rw (at_s alone (omega arith)) at r)
      go (is_goto e) Decode r = rw (at_goto word e) (rw (at_goto alone (omega arith)) at r)
      go (is_goto e) Execute r = rw (at_goto word e) (rw (at_goto alone (omega arith)) at r)
      go (is_m l h) Decode r = rw (at_m word l h) (rw (at_m alone (omega arith) (omega arith)) at r)
      go (is_m l h) Execute r = rw (at_m word l h) (rw (at_m alone (omega arith) (omega arith), same_d) at r)
      go (is_jump_if l h) Decode r = rw (at_jump_if word l h) (rw (at_jump_if alone (omega arith) (omega arith)) at r)
      go (is_jump_if l h) Execute r = rw (at_jump_if word l h) (rw (at_jump_if alone (omega arith) (omega arith), same_f) at r)
      go (is_i l) Decode r = rw (at_i word l) (rw (at_i alone (omega arith)) at r)
      go (is_i l) Execute r = rw (at_i word l) (rw (at_i alone (omega arith)) at r)

-- so a row made of an entry has them, with the mode and the taken jump that it is given
pub made : (word : ℕ) (stage : Stage) (entry top mode : ℕ) (taken : Bool) (r : ControlRow)
    → r ≡ row_with (entry / 4) mode (cond taken 0 (entry / 2 % 2)) (entry % 2)
    → top ≡ bits 11 8 word → Right entry (control_row (top * 2 ^ 8) stage 0)
    → r ≡ row_with (control_row word stage 0).enables mode (cond taken 0 (control_row word stage 0).mux1) (control_row word stage 0).mux2
made word stage entry top mode taken r e f g =
    let n = by_top word entry stage (rw f at g) in
    e ∙ rw (n.0, n.1, n.2)

-- in DECODE mode and selects are 0
pub decode_row_lem : (act : Act) → row_with (decode_row act).enables 0 (decode_row act).mux1 (decode_row act).mux2 ≡ decode_row act
decode_row_lem Pass = refl
decode_row_lem (Go target) = refl
decode_row_lem (OnCell d mode cell) = refl
decode_row_lem (GoIf f target) = refl
decode_row_lem (OnImmediate mode immediate) = refl

-- "1 - SR bit f": a jump that is taken has 0 there, and one that is not has what it has with no flag set
pub inverted : (f sr : ℕ) → f < 4 → cond (is_set f sr) 0 (1 - one_if (flag f 0)) ≡ 1 - one_if (flag f sr)
unfolding flag
inverted f sr h = go (is_set f 0) (is_set f sr) (each (λ n. not (is_set n 0)) 4 tt f h)
  where
    go : (t u : Bool) → T (not t) → cond u 0 (1 - one_if t) ≡ 1 - one_if u
    go true u n = absurd n
    go false true n = refl
    go false false n = refl

-- the unit is given one of its modes
pub mode_lt : (word : ℕ) (stage : Stage) (sr : ℕ) → (control_row word stage sr).mode < 16
unfolding control_row
mode_lt word stage sr = go (instruction_at word) (cut_fits word) stage
  where
    go : (i : Instruction) → FieldsFit i → (stage : Stage) → (row_of stage (act_of i) sr).mode < 16
    go i h Fetch = lit< tt
    go (S k) h Decode = lit< tt
    go (Goto target) h Decode = lit< tt
    go (M d mode cell) h Decode = lit< tt
    go (JumpIf f target) h Decode = lit< tt
    go (I mode immediate) h Decode = lit< tt
    go (S k) h Execute = lit< tt
    go (Goto target) h Execute = lit< tt
    go (M d mode cell) h Execute = h.1
    go (JumpIf f target) h Execute = lit< tt
    go (I mode immediate) h Execute = omega arith

-- and what it gives out is what the definitions of a clock say
pub unit_out : (m : Machine) (r : ControlRow) (b : ℕ) → b ≡ operand r m.ir m.dr
    → computed_as (unit_result r.mode m.acc b) (unit_flags r.mode m.acc b m.sr) ≡ computed_as (result_out r m) (flags_out r m)
unfolding result_out flags_out
unit_out m r b f = rw f

-- and so the unit, asked with SR in range, refuses nothing in a clock, and answers just that
pub unit_accepts : (m : Machine) (r : ControlRow) (b : ℕ) → m.sr < 16 → r ≡ control_row m.ir m.stage m.sr → b ≡ operand r m.ir m.dr
    → computed r.mode m.acc b m.sr ≡ answered accepted (computed_as (result_out r m) (flags_out r m))
unit_accepts m r b h e f =
    let mode : r.mode < 16 = rw e (mode_lt m.ir m.stage m.sr) in
    computed_in_range r.mode m.acc b m.sr mode h ∙ ap (answered accepted) (unit_out m r b f)

-- a device that is read or written is enabled: nothing loads IR without PMem, DR without DMem, Acc or SR without the unit, or writes a cell without
-- DMem, and DR is never loaded while a cell is written
abbrev implies : Bool → Bool → Bool
implies t u = not t || u

-- the devices' own enables, which no register goes by
abbrev pmem_e : ℕ
pmem_e = 3

abbrev dmem_e : ℕ
dmem_e = 2

abbrev alu_e : ℕ
alu_e = 0

abbrev powered : ControlRow → Bool
powered r =
    implies (enabled ir_e r) (enabled pmem_e r) && implies (enabled dr_e r) (enabled dmem_e r) && implies (enabled acc_e r) (enabled alu_e r)
    && implies (enabled sr_e r) (enabled alu_e r) && implies (enabled dmem_we r) (enabled dmem_e r)
    && implies (enabled dr_e r) (not (enabled dmem_we r))

pub all_powered : (word : ℕ) (stage : Stage) (sr : ℕ) → T (powered (control_row word stage sr))
unfolding control_row
all_powered word stage sr = go (instruction_at word) (cut_fits word) stage
  where
    go : (i : Instruction) → FieldsFit i → (stage : Stage) → T (powered (row_of stage (act_of i) sr))
    go i h Fetch = tt
    go (S k) h Decode = tt
    go (Goto target) h Decode = tt
    go (M d mode cell) h Decode = tt
    go (JumpIf f target) h Decode = tt
    go (I mode immediate) h Decode = tt
    go (S k) h Execute = tt
    go (Goto target) h Execute = tt
    go (M d mode cell) h Execute = each (λ n. powered (row_with (enables_of_m n) mode 1 1)) 2 tt d h.0
    go (JumpIf f target) h Execute = tt
    go (I mode immediate) h Execute = tt
