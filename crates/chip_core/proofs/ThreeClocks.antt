-- Three clocks of a machine about to fetch are one instruction, for every memory and every state. FETCH and DECODE write IR and DR alone; at EXECUTE
-- each kind's row lets through what its rule says, with the fields cut from IR by position. What the layers above use of it is `ran`.
-- Assumes nothing.
use Rattle.std.proofs.Common.{◌≡◌, ℕ, ◌<◌, ◌≤◌, Bool, true, false, eqb, List, refl, arith, eqb-true}
use borrow.Author.Tests.{eqb-false}
use Rattle.chip_core.specs.Clock.{pc_after, ir_after, dr_after, operand, result_out, flags_out, acc_after, sr_after, cells_after, clock}
use Rattle.chip_core.specs.Control.{control_row}
use Rattle.chip_core.specs.Instruction.{visible, instruction, Ran}
use Rattle.chip_core.specs.Iterate.{iterate}
use Rattle.chip_core.specs.Machine.{State, state, Memory}
use Rattle.chip_core.specs.Rule.{act_of, effect, stepped, next}
use Rattle.chip_core.specs.Word.{bits, flag, in_range, word_of}
use Rattle.chip_core.specs.declared.control.Stage.{Stage}
use Rattle.chip_core.specs.declared.control.Stage.TheVariants.{Fetch}
use Rattle.chip_core.specs.declared.machine.Machine.{Machine}
use Rattle.chip_core.specs.declared.word.Instruction.{Instruction}
use Rattle.chip_core.proofs.Kind.{Kind, is_s, is_goto, is_m, is_jump_if, is_i, kind, at_s, at_goto, at_m, at_jump_if, at_i}
use Rattle.chip_core.proofs.Range.{fields_fit}
use Rattle.chip_core.proofs.RoundTrip.{cut_again}

-- the machine with this stage next, whatever was next
abbrev pub at_stage : Stage → Machine → Machine
at_stage stage m = record { pc = m.pc; ir = m.ir; dr = m.dr; acc = m.acc; sr = m.sr; stage = stage }

abbrev about_to_fetch : Machine → Machine
about_to_fetch m = at_stage Fetch m

three_at : (memory : Memory) (m : Machine) (cells : List ℕ)
    → iterate (clock memory) 3 (state (about_to_fetch m) cells) ≡ instruction memory (state (about_to_fetch m) cells)
unfolding clock instruction control_row pc_after ir_after dr_after operand result_out flags_out acc_after sr_after cells_after effect next
three_at memory m cells = go (kind word)
  where
    word : ℕ
    word = memory m.pc

    Goal : Type 0
    Goal = iterate (clock memory) 3 (state (about_to_fetch m) cells) ≡ instruction memory (state (about_to_fetch m) cells)

    on_cell_lem : 0b0010 ≤ bits 11 8 word → bits 11 8 word ≤ 0b0011 → (t : Bool) → eqb (bits 8 8 word) 1 ≡ t → Goal
    on_cell_lem lo hi true e = let d = eqb-true (bits 8 8 word) 1 e in rw (at_m word lo hi, at_m word lo hi, d)
    on_cell_lem lo hi false e =
        let n = eqb-false (bits 8 8 word) 1 e in
        let d : bits 8 8 word ≡ 0 = omega arith in
        rw (at_m word lo hi, at_m word lo hi, d)

    go_if : 0b0100 ≤ bits 11 8 word → bits 11 8 word ≤ 0b0111 → (t : Bool) → flag (bits 9 8 word) m.sr ≡ t → Goal
    go_if lo hi true e = rw (at_jump_if word lo hi, at_jump_if word lo hi, e)
    go_if lo hi false e = rw (at_jump_if word lo hi, at_jump_if word lo hi, e)

    go : Kind word → Goal
    go (is_s e) = rw (at_s word e, at_s word e)
    go (is_goto e) = rw (at_goto word e, at_goto word e)
    go (is_m lo hi) = on_cell_lem lo hi (eqb (bits 8 8 word) 1) refl
    go (is_jump_if lo hi) = go_if lo hi (flag (bits 9 8 word) m.sr) refl
    go (is_i lo) = rw (at_i word lo, at_i word lo)

-- THREE CLOCKS ARE ONE INSTRUCTION
pub three : (memory : Memory) (s : State) → s.machine.stage ≡ Fetch → iterate (clock memory) 3 s ≡ instruction memory s
three memory s f = rw s_is (three_at memory s.machine s.cells)
  where
    s_is : s ≡ state (about_to_fetch s.machine) s.cells
    s_is = λ i. state (at_stage (f i) s.machine) s.cells

-- the word of an instruction in range, three clocks after it stood at PC of a machine about to fetch
pub ran : (memory : Memory) (i : Instruction) (s : State) → in_range i ≡ true → s.machine.stage ≡ Fetch → memory s.machine.pc ≡ word_of i
    → Ran (act_of i) s (iterate (clock memory) 3 s)
unfolding instruction
ran memory i s h f e =
    rw (three memory s f, e, (cut_again i (fields_fit i h)).1) (record { sees = refl; to = refl; ends = refl })

-- "all 256 S words do nothing except step PC": after the three clocks of one, what is seen is as it was
pub s_words : (memory : Memory) (s : State) → memory s.machine.pc < 256 → s.machine.stage ≡ Fetch
    → (visible (iterate (clock memory) 3 s) ≡ visible s) × ((iterate (clock memory) 3 s).machine.pc ≡ stepped s.machine.pc)
unfolding instruction effect next
s_words memory s h f =
    let e : bits 11 8 (memory s.machine.pc) ≡ 0b0000 = omega arith in
    rw (three memory s f, at_s (memory s.machine.pc) e) (refl, refl)
