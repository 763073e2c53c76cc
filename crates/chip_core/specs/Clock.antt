-- One clock: a row of the clock table, and what it enables is written. A run is any number of them.
-- Assumes nothing.
use Rattle.std.specs.Prelude.{ℕ, cond, List, length, ◌==◌, slice_set, Result}
use Rattle.chip_core.specs.Control.{enabled, pc_e, acc_e, sr_e, ir_e, dr_e, dmem_we, stage_after, control_row}
use Rattle.chip_core.specs.Iterate.{iterate}
use Rattle.chip_core.specs.Machine.{State, state, Memory, memory_of, machine_checks, Answers, AnswersInPlace}
use Rattle.chip_core.specs.Refusal.{first_broken}
use Rattle.chip_core.specs.Rule.{cell_at, stepped}
use Rattle.chip_core.specs.Unit.{unit_result, unit_flags}
use Rattle.chip_core.specs.Word.{bits, program_address, data_address}
use Rattle.chip_core.specs.declared.address.ProgramAddress.{ProgramAddress}
use Rattle.chip_core.specs.declared.address.DataAddress.{DataAddress}
use Rattle.chip_core.specs.declared.control.ControlRow.{ControlRow}
use Rattle.chip_core.specs.declared.machine.Machine.{Machine}
use Rattle.chip_core.specs.declared.refusal.Refusal.{Refusal}

-- "EXECUTE writes what is enabled, all from values before the edge." What each register and the cells hold after the edge, from the row and the
-- machine before it. A register is written by its own enable, and a cell by DMem.WE; that the device is then enabled too is the theorem `all_powered`.

-- "MUX1 = 0 picks IR[7:0], 1 picks PC plus one."
unfoldable pub pc_after : ControlRow → Machine → ProgramAddress
pc_after row machine =
    cond (enabled pc_e row)
    (cond (row.mux1 == 0) (program_address (bits 7 0 machine.ir)) (stepped machine.pc))
    machine.pc

-- "FETCH loads IR from PMem[PC]"
unfoldable pub ir_after : Memory → ControlRow → Machine → ℕ
ir_after memory row machine = cond (enabled ir_e row) (memory machine.pc) machine.ir

-- the cell that a word in IR names: bits 3..0
abbrev pub cell_of : ℕ → DataAddress
cell_of ir = data_address (bits 3 0 ir)

-- "DECODE of M loads DR from the cell"
unfoldable pub dr_after : ControlRow → Machine → List ℕ → ℕ
dr_after row machine cells = cond (enabled dr_e row) (cell_at (cell_of machine.ir) cells) machine.dr

-- "MUX2 = 0 picks IR[7:0], 1 picks DR.": the unit's operand 2. EXECUTE of M uses DR, whatever the cell holds by then.
unfoldable pub operand : ControlRow → ℕ → ℕ → ℕ
operand row ir dr = cond (row.mux2 == 0) (bits 7 0 ir) dr

-- what the unit gives out
unfoldable pub result_out : ControlRow → Machine → ℕ
result_out row machine = unit_result row.mode machine.acc (operand row machine.ir machine.dr)

unfoldable pub flags_out : ControlRow → Machine → ℕ
flags_out row machine = unit_flags row.mode machine.acc (operand row machine.ir machine.dr) machine.sr

-- Acc and SR take what the unit gives out
unfoldable pub acc_after : ControlRow → Machine → ℕ
acc_after row machine = cond (enabled acc_e row) (result_out row machine) machine.acc

unfoldable pub sr_after : ControlRow → Machine → ℕ
sr_after row machine = cond (enabled sr_e row) (flags_out row machine) machine.sr

-- "d = 0 writes the same cell": the one that IR names
unfoldable pub cells_after : ControlRow → Machine → List ℕ → List ℕ
cells_after row machine cells =
    cond (enabled dmem_we row) (slice_set cells (cell_of machine.ir).0 (result_out row machine)) cells

-- a state after an edge with this row
abbrev pub edge : Memory → ControlRow → State → State
edge memory row s =
    record {
      machine = record {
        pc = pc_after row s.machine;
        ir = ir_after memory row s.machine;
        dr = dr_after row s.machine s.cells;
        acc = acc_after row s.machine;
        sr = sr_after row s.machine;
        stage = stage_after s.machine.stage;
      };
      cells = cells_after row s.machine s.cells;
    }

-- one clock of a machine that is not refused
unfoldable pub clock : Memory → State → State
clock memory s = edge memory (control_row s.machine.ir s.machine.stage s.machine.sr) s

-- the number of the first broken rule
unfoldable pub clock_refusal : Machine → List ℕ → ℕ → ℕ
clock_refusal machine image count = first_broken (machine_checks machine image count)

-- "A run takes any unsigned 64-bit number of clocks and may start and end at any stage."
abbrev pub RunPromise : ℕ → Machine → List ℕ → List ℕ → Result Machine Refusal → List ℕ → Type 0
RunPromise clocks machine image cells =
    Answers (clock_refusal machine image (length cells)) (state machine cells)
    (iterate (clock (memory_of image)) clocks (state machine cells))

-- what `clock` promises of its answer and of the cells that it leaves
abbrev pub ClockPromise : Machine → List ℕ → List ℕ → Result Machine Refusal → List ℕ → Type 0
ClockPromise machine image cells =
    Answers (clock_refusal machine image (length cells)) (state machine cells)
    (clock (memory_of image) (state machine cells))

-- "The tester keeps one machine for each socket and clocks it where it stands." One clock of a machine that is lent: the answer, the machine that is left
-- in its place, and the cells.
abbrev pub ClockInPlacePromise : Machine → List ℕ → List ℕ → Result Unit Refusal → Machine → List ℕ → Type 0
ClockInPlacePromise machine image cells =
    AnswersInPlace (clock_refusal machine image (length cells)) (state machine cells) (clock (memory_of image) (state machine cells))
