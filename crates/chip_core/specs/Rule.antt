-- Document 01's rules of the instructions: what each one does to what programs see, and where the program goes on.
-- Assumes nothing.
use Rattle.std.specs.Prelude.{◌≡◌, ℕ, cond, ◌≢◌, List, length, ◌==◌, slice_index, slice_set}
use Rattle.chip_core.specs.Unit.{plus, unit_result, unit_flags}
use Rattle.chip_core.specs.Word.{program_address, data_address, flag}
use Rattle.chip_core.specs.declared.address.DataAddress.{DataAddress}
use Rattle.chip_core.specs.declared.address.ProgramAddress.{ProgramAddress}
use Rattle.chip_core.specs.declared.machine.Machine.{Machine}
use Rattle.chip_core.specs.declared.word.Instruction.{Instruction}
use Rattle.chip_core.specs.declared.word.Instruction.TheVariants.{S, Goto, M, JumpIf, I}

-- what an instruction does, apart from the word that it is encoded in
pub data Act : Type 0 where
  Pass : Act
  Go : ProgramAddress → Act
  OnCell : ℕ → ℕ → DataAddress → Act
  GoIf : ℕ → ProgramAddress → Act
  OnImmediate : ℕ → ℕ → Act

-- "Only 000 is named NOP, but all 256 S words do nothing except step PC." The other kinds act by their fields.
abbrev pub act_of : Instruction → Act
act_of (S k) = Pass
act_of (Goto target) = Go target
act_of (M d mode cell) = OnCell d mode cell
act_of (JumpIf f target) = GoIf f target
act_of (I mode immediate) = OnImmediate mode immediate

-- what programs compute with: the accumulator, the flags and the cells. PC is apart, in `next`.
pub record Visible : Type 0 where
  pub acc : ℕ
  pub sr : ℕ
  pub cells : List ℕ

-- the value of a cell
abbrev pub cell_at : DataAddress → List ℕ → ℕ
cell_at cell cells = slice_index cells cell.0

-- the unit's result to Acc, or to a cell; its flags to SR: "a is operand 1 (Acc), b is operand 2"
abbrev pub to_acc : ℕ → ℕ → Visible → Visible
to_acc mode b v = record { acc = unit_result mode v.acc b; sr = unit_flags mode v.acc b v.sr; cells = v.cells }

abbrev pub to_cell : DataAddress → ℕ → ℕ → Visible → Visible
to_cell cell mode b v =
    record { acc = v.acc; sr = unit_flags mode v.acc b v.sr; cells = slice_set v.cells cell.0 (unit_result mode v.acc b) }

-- "M uses b = cell; d = 1 writes Acc, d = 0 writes the same cell."
abbrev pub on_cell : ℕ → ℕ → DataAddress → Visible → Visible
on_cell d mode cell v =
    cond (d == 1) (to_acc mode (cell_at cell v.cells) v) (to_cell cell mode (cell_at cell v.cells) v)

-- "I uses b = immediate and writes Acc. Jumps leave Acc, SR and cells."
unfoldable pub effect : Act → Visible → Visible
effect Pass v = v
effect (Go target) v = v
effect (OnCell d mode cell) v = on_cell d mode cell v
effect (GoIf f target) v = v
effect (OnImmediate mode immediate) v = to_acc mode immediate v

-- "PC steps by one, and 255 steps to 0"
abbrev pub stepped : ProgramAddress → ProgramAddress
stepped pc = program_address (plus pc.0 1)

-- ".. unless a jump is taken": the address of the next instruction, from the machine before this one
unfoldable pub next : Act → Machine → ProgramAddress
next Pass machine = stepped machine.pc
next (Go target) machine = target
next (OnCell d mode cell) machine = stepped machine.pc
next (GoIf f target) machine = cond (flag f machine.sr) target (stepped machine.pc)
next (OnImmediate mode immediate) machine = stepped machine.pc

-- cells of which one at most has changed
pub record OneCell (before after : List ℕ) : Type 0 where
  pub cell : ℕ
  pub as_many : length after ≡ length before
  pub others : (place : ℕ) → place ≢ cell → cell_at (data_address place) after ≡ cell_at (data_address place) before
