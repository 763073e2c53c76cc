-- A clock keeps what the next clock goes by: SR stays below 16, since flags are four bits, and the cells stay sixteen. So a run checks once.
-- Assumes nothing.
use Rattle.std.proofs.Common.{◌≡◌, ℕ, ◌<◌, Bool, true, false, List, length, refl, ◌∙◌, arith, lit<, length-set}
use Rattle.chip_core.specs.Clock.{result_out, flags_out, sr_after, cells_after, cell_of, clock}
use Rattle.chip_core.specs.Control.{enabled, sr_e, dmem_we}
use Rattle.chip_core.specs.Machine.{State, Memory}
use Rattle.chip_core.specs.Unit.{one_if, packed, kept, merged, row_at, row_flags, unit_flags}
use Rattle.chip_core.specs.Word.{flag_z, flag_c, flag_s, flag_o}
use Rattle.chip_core.specs.declared.control.ControlRow.{ControlRow}
use Rattle.chip_core.specs.declared.machine.Machine.{Machine}
use Rattle.chip_core.proofs.Choice.{either}

one_lt : (t : Bool) → one_if t < 2
one_lt true = lit< tt
one_lt false = lit< tt

-- four flags are four bits
packed_lt : (z c s o : Bool) → packed z c s o < 16
packed_lt z c s o =
    let p = one_lt z in
    let q = one_lt c in
    let r = one_lt s in
    let t = one_lt o in
    omega arith

merged_lt : (sets given before : ℕ) → merged sets given before < 16
merged_lt sets given before =
    packed_lt (kept sets given before flag_z) (kept sets given before flag_c) (kept sets given before flag_s) (kept sets given before flag_o)

pub flags_lt : (mode a b sr : ℕ) → unit_flags mode a b sr < 16
unfolding unit_flags
flags_lt mode a b sr = merged_lt (row_at mode a b).sets (row_flags (row_at mode a b)) sr

-- what a clock goes by
pub record Fit (s : State) : Type 0 where
  pub flags : s.machine.sr < 16
  pub sixteen : length s.cells ≡ 16

sr_lt : (row : ControlRow) (machine : Machine) → machine.sr < 16 → sr_after row machine < 16
unfolding sr_after flags_out
sr_lt row machine h = either (λ (n : ℕ). n < 16) (enabled sr_e row) _ _ (flags_lt _ _ _ _) h

same_length : (row : ControlRow) (machine : Machine) (cells : List ℕ) → length (cells_after row machine cells) ≡ length cells
unfolding cells_after
same_length row machine cells =
    either (λ (l : List ℕ). length l ≡ length cells) (enabled dmem_we row) _ _
    (length-set cells (cell_of machine.ir).0 (result_out row machine)) refl

pub stays_fit : (memory : Memory) (s : State) → Fit s → Fit (clock memory s)
unfolding clock
stays_fit memory s f =
    record { flags = sr_lt _ s.machine f.flags; sixteen = same_length _ s.machine s.cells ∙ f.sixteen }
