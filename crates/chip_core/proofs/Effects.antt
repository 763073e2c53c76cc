-- What the layers above go by: what each act does to what is seen, and where the program goes on after it.
-- Assumes nothing.
use Rattle.std.proofs.Common.{◌≡◌, ℕ, ◌+◌, ◌%◌, ◌<◌, cond, eqb, List, set, refl, ap, length-set, get_or-set_other}
use native.Mathlib.Nat.{mod-add-mod}
use Rattle.chip_core.specs.Rule.{Act, Visible, to_acc, on_cell, effect, next, stepped, OneCell}
use Rattle.chip_core.specs.Word.{flag, program_address}
use Rattle.chip_core.specs.declared.address.DataAddress.{DataAddress}
use Rattle.chip_core.specs.declared.address.ProgramAddress.{ProgramAddress}
use Rattle.chip_core.specs.declared.machine.Machine.{Machine}
use Rattle.chip_core.proofs.Choice.{either}
use Rattle.chip_core.proofs.Running.{flags_lt}

-- I writes Acc
pub on_immediate : (mode b : ℕ) (v : Visible) → effect (Act.OnImmediate mode b) v ≡ to_acc mode b v
unfolding effect
on_immediate mode b v = refl

-- d = 1 writes Acc, d = 0 the cell
pub on_cell_lem : (d mode : ℕ) (cell : DataAddress) (v : Visible) → effect (Act.OnCell d mode cell) v ≡ on_cell d mode cell v
unfolding effect
on_cell_lem d mode cell v = refl

-- the other acts leave what is seen,
pub pass_leaves : (v : Visible) → effect Act.Pass v ≡ v
unfolding effect
pass_leaves v = refl

pub go_leaves : (target : ProgramAddress) (v : Visible) → effect (Act.Go target) v ≡ v
unfolding effect
go_leaves target v = refl

pub go_if_leaves : (f : ℕ) (target : ProgramAddress) (v : Visible) → effect (Act.GoIf f target) v ≡ v
unfolding effect
go_if_leaves f target v = refl

-- and this is where the program goes on after each
module _ (machine : Machine) where
  pub pass_to : next Act.Pass machine ≡ stepped machine.pc
  unfolding next
  pass_to = refl

  pub go_to : (target : ProgramAddress) → next (Act.Go target) machine ≡ target
  unfolding next
  go_to target = refl

  pub cell_to : (d mode : ℕ) (cell : DataAddress) → next (Act.OnCell d mode cell) machine ≡ stepped machine.pc
  unfolding next
  cell_to d mode cell = refl

  pub go_if_to : (f : ℕ) (target : ProgramAddress) → next (Act.GoIf f target) machine ≡ cond (flag f machine.sr) target (stepped machine.pc)
  unfolding next
  go_if_to f target = refl

  pub immediate_to : (mode b : ℕ) → next (Act.OnImmediate mode b) machine ≡ stepped machine.pc
  unfolding next
  immediate_to mode b = refl

-- PC steps modulo 256
pub steps_to : (n : ℕ) → stepped (program_address (n % 256)) ≡ program_address ((n + 1) % 256)
steps_to n = ap program_address (mod-add-mod n 256 1)

-- flags stay four bits
pub effect_flags : (act : Act) (v : Visible) → v.sr < 16 → (effect act v).sr < 16
unfolding effect
effect_flags Act.Pass v h = h
effect_flags (Act.Go target) v h = h
effect_flags (Act.OnCell d mode cell) v h =
    either (λ (w : Visible). w.sr < 16) (eqb d 1) _ _ (flags_lt mode v.acc _ v.sr) (flags_lt mode v.acc _ v.sr)
effect_flags (Act.GoIf f target) v h = h
effect_flags (Act.OnImmediate mode b) v h = flags_lt mode v.acc b v.sr

-- an act changes one cell at most
pub none_changed : (cells : List ℕ) → OneCell cells cells
none_changed cells = record { cell = 0; as_many = refl; others = λ place h. refl }

one_changed : (cells : List ℕ) (cell value : ℕ) → OneCell cells (set cells cell value)
one_changed cells cell value =
    record { cell = cell; as_many = length-set cells cell value; others = λ place h. get_or-set_other cells cell place value 0 h }

pub effect_one : (act : Act) (v : Visible) → OneCell v.cells (effect act v).cells
unfolding effect
effect_one Act.Pass v = none_changed v.cells
effect_one (Act.Go target) v = none_changed v.cells
effect_one (Act.OnCell d mode cell) v =
    either (λ (w : Visible). OneCell v.cells w.cells) (eqb d 1) _ _ (none_changed v.cells) (one_changed v.cells cell.0 _)
effect_one (Act.GoIf f target) v = none_changed v.cells
effect_one (Act.OnImmediate mode b) v = none_changed v.cells
