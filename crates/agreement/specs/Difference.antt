-- The first difference between what the line runner came to and what the machine came to, of all that demand 3 says is the same.
-- Assumes nothing.
use Rattle.std.specs.Prelude.{ℕ, suc, cond, not, List, [], ◌∷◌, ◌==◌, slice_index, Option, Some, None, Result, Ok, Err}
use Rattle.chip_core.specs.Instruction.{is_fetch}
use Rattle.chip_core.specs.declared.machine.Machine.{Machine}
use Rattle.chip_core.specs.declared.refusal.Refusal.{Refusal}
use Rattle.deck.specs.declared.lines.LinesRun.{LinesRun}
use Rattle.agreement.specs.declared.difference.Difference.{Difference}

abbrev pub one_further : Option ℕ → Option ℕ
one_further None = None
one_further (Some place) = Some (suc place)

-- the first place where two rows of cells differ, of those that both have
abbrev pub first_differing : List ℕ → List ℕ → Option ℕ
first_differing [] others = None
first_differing (cell ∷ cells) [] = None
first_differing (cell ∷ cells) (other ∷ others) = cond (cell == other) (one_further (first_differing cells others)) (Some 0)

abbrev pub difference_at : List ℕ → List ℕ → Option ℕ → Option Difference
difference_at cells others None = None
difference_at cells others (Some place) = Some (Difference.Cell place (slice_index cells place) (slice_index others place))

abbrev pub difference_of_cells : List ℕ → List ℕ → Option Difference
difference_of_cells cells others = difference_at cells others (first_differing cells others)

-- refusal, Acc, flags, PC and stage, then the cells in order: `cells` are those that the lines left, `others` those that the clocks left
unfoldable pub first_difference : LinesRun → List ℕ → Result Machine Refusal → List ℕ → Option Difference
first_difference ran cells (Err refusal) others = Some (Difference.Refusal refusal)
first_difference ran cells (Ok machine) others =
    cond (not (machine.acc == ran.acc)) (Some (Difference.Acc ran.acc machine.acc))
    (cond (not (machine.sr == ran.flags)) (Some (Difference.Flags ran.flags machine.sr))
    (cond (not (machine.pc.0 == ran.pc.0)) (Some (Difference.Pc ran.pc.0 machine.pc.0))
    (cond (not (is_fetch machine.stage)) (Some Difference.Stage)
    (difference_of_cells cells others))))
