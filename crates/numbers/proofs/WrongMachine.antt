-- "a machine that does the whole instruction at FETCH and idles for two clocks": three of its clocks are one instruction too, and yet the promise of
-- `clock` is false of it. MOVIA 1 shows it: its Acc is 1 one clock after a fresh load, where IR alone is loaded.
-- Assumes nothing.
use Rattle.std.proofs.Common.{◌≡◌, ℕ, List, [], ◌∷◌, replicate, ap, arith, Ok}
use Rattle.chip_core.specs.Clock.{pc_after, ir_after, dr_after, operand, result_out, flags_out, acc_after, sr_after, cells_after, clock, clock_refusal, ClockPromise}
use Rattle.chip_core.specs.Control.{stage_after, control_row}
use Rattle.chip_core.specs.Instruction.{instruction}
use Rattle.chip_core.specs.Iterate.{iterate}
use Rattle.chip_core.specs.Machine.{State, state, Memory, freshly_loaded, memory_of}
use Rattle.chip_core.proofs.Answered.{is_ok, ok_is}
use Rattle.chip_core.specs.Rule.{effect, next}
use Rattle.chip_core.specs.Unit.{table, unit_result, unit_flags}
use Rattle.chip_core.specs.Word.{instruction_at}
use Rattle.chip_core.specs.declared.control.Stage.{Stage}
use Rattle.chip_core.specs.declared.control.Stage.TheVariants.{Fetch, Decode, Execute}
use Rattle.chip_core.specs.declared.machine.Machine.{Machine}
use Rattle.chip_core.proofs.ThreeClocks.{at_stage}

abbrev worked : Stage → Memory → State → State
worked Fetch memory s = instruction memory s
worked Decode memory s = s
worked Execute memory s = s

-- one clock of the wrong machine
abbrev whole_at_fetch : Memory → State → State
whole_at_fetch memory s =
    let after = worked s.machine.stage memory s in
    state (at_stage (stage_after s.machine.stage) after.machine) after.cells

pub three_agree : (memory : Memory) (m : Machine) (cells : List ℕ) → m.stage ≡ Fetch
    → iterate (whole_at_fetch memory) 3 (state m cells) ≡ instruction memory (state m cells)
unfolding instruction
three_agree memory m cells e = rw e

abbrev image : List ℕ
image = 0xB01 ∷ []

abbrev cells : List ℕ
cells = replicate 16 0

abbrev wrong : State
wrong = whole_at_fetch (memory_of image) (state freshly_loaded cells)

-- THE PROMISE IS FALSE OF IT
pub refused : ClockPromise freshly_loaded image cells (Ok wrong.machine) wrong.cells → ⊥
unfolding clock clock_refusal instruction control_row
    pc_after ir_after dr_after operand result_out flags_out acc_after sr_after cells_after effect next instruction_at table unit_result unit_flags
refused p = let e : ◌≡◌ {A = ℕ} 1 0 = ap (λ (m : Machine). m.acc) (ok_is (is_ok _ _ p.0)) in absurd (omega arith)
