-- `chip_core::edge::one_clock` meets its promise: each register's next value is a function of its own, and so is the cells'; the unit is given one of its modes
-- (`mode_lt`), and gives out what the definitions of a clock say (`unit_out`).
-- Assumes nothing.
use Rattle.std.proofs.Common.{ap, ◌∙◌}
use Rattle.chip_core.specs.Clock.{dr_after, acc_after, sr_after, clock}
use Rattle.chip_core.specs.declared.unit.Computed.{Computed}
use Rattle.chip_core.proofs.ClockTable.{mode_lt, unit_out}
use Rattle.chip_core.proofs.edge.one_clock.Goals as goal

pub compute-out-requires : goal.compute-out-requires
compute-out-requires c =
    let m = c.args.machine in
    (rw c.control_row-row.ensures (mode_lt m.ir m.stage m.sr), c.requires)

pub write_cell-requires : goal.write_cell-requires
write_cell-requires c =
    ap (λ (out : Computed). out.result) (c.compute-out.ensures ∙ unit_out c.args.machine _ _ c.operand-b.ensures)

pub returns : goal.returns
unfolding dr_after acc_after sr_after clock
returns c =
    simp (
      c.write_cell.ensures,
      c.stage_after.ensures,
      c.written-3.ensures,
      c.written-2.ensures,
      c.written.ensures,
      c.ir_after.ensures,
      c.pc_after.ensures,
      c.compute-out.ensures ∙ unit_out c.args.machine _ _ c.operand-b.ensures,
      c.read_cell-cell.ensures,
      c.control_row-row.ensures,
    )
