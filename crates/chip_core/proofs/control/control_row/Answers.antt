-- `chip_core::control::control_row` meets its promise: enables and selects are those of bits 11..8 alone (`made`), and each arm gives the mode, and whether
-- a jump is taken.
-- Assumes nothing.
use Rattle.std.proofs.Common.{ℕ, false, inl, inr, sym, ap, ◌∙◌, arith}
use Rattle.chip_core.specs.Control.{row_with, control_row}
use Rattle.chip_core.specs.Rule.{act_of}
use Rattle.chip_core.specs.Word.{instruction_at}
use Rattle.chip_core.proofs.ClockTable.{made, decode_row_lem, inverted}
use Rattle.chip_core.proofs.Range.{cut_fits_as}
use Rattle.chip_core.proofs.control.control_row.Goals as goal

pub is_set-requires : goal.is_set-requires
is_set-requires c =
    let f = cut_fits_as _ _ (sym c.instruction_at-instruction.ensures ∙ c.in-JumpIf.is) in
    omega arith

pub returns-in-M : goal.returns-in-M
unfolding control_row
returns-in-M c =
    let m = made c.args.word c.args.stage _ _ c.in-M.mode false _ c.row_with-in-M.ensures c.bits.ensures c.entry_at-entry.ensures in
    let execute = c.in-Execute.is in
    let is = sym c.instruction_at-instruction.ensures in
    elim c.in-M.is [
      | inl cell ↦ rw (m, execute, is, cell.2)
      | inr immediate ↦ rw (m, execute, is, immediate.1)
    ]

pub returns-in-JumpIf : goal.returns-in-JumpIf
unfolding control_row
returns-in-JumpIf c =
    let is = sym c.instruction_at-instruction.ensures ∙ c.in-JumpIf.is in
    let m = made c.args.word c.args.stage _ _ 0 c.is_set.result _ c.row_with-in-JumpIf.ensures c.bits.ensures c.entry_at-entry.ensures in
    rw (m, c.in-Execute.is, is, c.is_set.ensures)
    (ap (λ (n : ℕ). row_with 0b100000000 0 n 0) (inverted c.in-JumpIf.flag c.args.sr (cut_fits_as _ _ is).0))

pub returns-in-Fetch : goal.returns-in-Fetch
unfolding control_row
returns-in-Fetch c =
    let m = made c.args.word c.args.stage _ _ 0 false _ c.row_with.ensures c.bits.ensures c.entry_at-entry.ensures in
    elim c.in-Fetch.is [
      | inl fetch ↦ rw (m, fetch)
      | inr decode ↦ rw (m, decode) (decode_row_lem (act_of (instruction_at c.args.word)))
    ]

pub returns-in-S : goal.returns-in-S
unfolding control_row
returns-in-S c =
    let m = made c.args.word c.args.stage _ _ 0 false _ c.row_with-in-S.ensures c.bits.ensures c.entry_at-entry.ensures in
    let execute = c.in-Execute.is in
    let is = sym c.instruction_at-instruction.ensures in
    elim c.in-S.is [
      | inl s ↦ rw (m, execute, is, s.1)
      | inr goto ↦ rw (m, execute, is, goto.1)
    ]
