-- `chip_core::control::entry_at` meets its promise: the constant table is right at each of its 48 entries, which one test computes.
-- Assumes nothing.
use Rattle.std.proofs.Common.{ℕ, List, ◌∷◌, ◌++◌, replicate, rules}
use Rattle.chip_core.specs.Control.{control_row}
use Rattle.chip_core.specs.Word.{instruction_at, flag}
use Rattle.chip_core.proofs.ClockTable.{at_entry}
use Rattle.chip_core.proofs.control.entry_at.Goals as goal

-- the constant's entries, a line a stage
abbrev table : List ℕ
table =
    replicate 16 0b000101000_0_0
    ++ (0 ∷ 0 ∷ 0b000010100_0_0 ∷ 0b000010100_0_0 ∷ replicate 12 0)
    ++ (0b100000000_1_0 ∷ 0b100000000_0_0 ∷ 0b101000111_1_1 ∷ 0b111000001_1_1 ∷ replicate 4 0b100000000_1_0 ++ replicate 8 0b111000001_1_0)

pub returns : goal.returns
unfolding control_row instruction_at flag
returns c = rw c.number.ensures.0 (at_entry table c.args.stage c.args.top (search rules) tt)
