-- Document 01's line rules, which "speak of lines alone: position, Acc, flags, cells", and what the line runner answers.
-- Assumes nothing.
use Rattle.std.specs.Prelude.{◌≡◌, ℕ, ◌+◌, ◌*◌, Bool, cond, not, List, [], ◌∷◌, ◌++◌, length, ◌==◌, nat_lt, Result}
use Rattle.chip_core.specs.Iterate.{iterate, total}
use Rattle.chip_core.specs.Refusal.{accepted, first_broken, check, not_sixteen_cells, number_and_values, answered}
use Rattle.chip_core.specs.Rule.{Act, Visible, effect}
use Rattle.chip_core.specs.Word.{flag}
use Rattle.chip_core.specs.declared.refusal.Refusal.{Refusal}
use Rattle.deck.specs.Deck.{deck_checks}
use Rattle.deck.specs.Image.{pc_at}
use Rattle.deck.specs.Operation.{Program, program}
use Rattle.deck.specs.declared.lines.LinesRun.{LinesRun}
use Rattle.deck.specs.declared.operation.Operation.{Operation}
use Rattle.deck.specs.declared.operation.Operation.TheVariants.{M, I, Goto, JumpIf, JumpUnless, Nop}

-- where a run stands, and what it computes with
pub record LineState : Type 0 where
  pub position : ℕ
  pub sees : Visible

abbrev pub line_state : ℕ → Visible → LineState
line_state position sees = record { position = position; sees = sees }

-- what a line does to Acc, flags and cells: an M or an I operation does what the instruction does, the others nothing
abbrev pub line_effect : Operation → Visible → Visible
line_effect (M d mode cell) v = effect (Act.OnCell d mode cell) v
line_effect (I mode immediate) v = effect (Act.OnImmediate mode immediate) v
line_effect (Goto line) v = v
line_effect (JumpIf f line) v = v
line_effect (JumpUnless f line) v = v
line_effect Nop v = v

-- "A jump moves to its label's line; other lines go to the next. Operation 26 jumps when the flag is 0."
abbrev pub line_next : Operation → ℕ → ℕ → ℕ
line_next (M d mode cell) position flags = position + 1
line_next (I mode immediate) position flags = position + 1
line_next (Goto line) position flags = line
line_next (JumpIf f line) position flags = cond (flag f flags) line (position + 1)
line_next (JumpUnless f line) position flags = cond (flag f flags) (position + 1) line
line_next Nop position flags = position + 1

-- The words that a line executes: all that it has, but where operation 26 does not jump its GOTO is skipped.
abbrev pub executed : Operation → ℕ → ℕ
executed (M d mode cell) flags = 1
executed (I mode immediate) flags = 1
executed (Goto line) flags = 1
executed (JumpIf f line) flags = 1
executed (JumpUnless f line) flags = cond (flag f flags) 1 2
executed Nop flags = 1

-- a run "stops on passing the last line"
abbrev pub running : Program → LineState → Bool
running p s = nat_lt s.position p.count

-- one line that is there
abbrev pub after_line : Operation → LineState → LineState
after_line operation s =
    record { position = line_next operation s.position s.sees.sr; sees = line_effect operation s.sees }

-- One line by the rules. Past the last line nothing more happens, at no cost; so a run of n lines is n of these, also where it passes the last line before.
unfoldable pub line_step : Program → LineState → LineState
line_step p s = cond (running p s) (after_line (p.line s.position) s) s

-- the words that it executes: none past the last line
unfoldable pub line_executed : Program → LineState → ℕ
line_executed p s = cond (running p s) (executed (p.line s.position) s.sees.sr) 0

-- "Cost: 3 clocks for each executed word, so operation 26 costs 3 if the flag is 1 and 6 otherwise."
abbrev pub line_cost : Program → LineState → ℕ
line_cost p s = 3 * line_executed p s

unfoldable pub line_tally : Program → LineState → ℕ
line_tally p s = cond (running p s) 1 0

-- "A run starts at line 0 with Acc and flags 0"
abbrev pub at_start : List ℕ → LineState
at_start cells = line_state 0 (record { acc = 0; sr = 0; cells = cells })

-- after so many lines asked for: where the run stands; the lines that it ran, the clocks that they cost and the words that they executed
abbrev pub after_lines : Program → ℕ → LineState → LineState
after_lines p asked s = iterate (line_step p) asked s

abbrev pub lines_of : Program → ℕ → LineState → ℕ
lines_of p asked s = total (line_tally p) (line_step p) asked s

abbrev pub clocks_of : Program → ℕ → LineState → ℕ
clocks_of p asked s = total (line_cost p) (line_step p) asked s

abbrev pub words_executed : Program → ℕ → LineState → ℕ
words_executed p asked s = total (line_executed p) (line_step p) asked s

-- "The translator then tries 9, the line runner 12."
unfoldable pub lines_refusal : List ℕ → ℕ → ℕ
lines_refusal deck count = first_broken (deck_checks deck ++ check (not (count == 16)) not_sixteen_cells ∷ [])

-- "The line runner returns the lines run, the clocks, Acc, flags, the position reached and its address modulo 256 (the PC)"
abbrev pub ran_as : Program → ℕ → ℕ → LineState → LinesRun
ran_as p lines clocks s =
    record {
      lines = lines;
      clocks = clocks;
      acc = s.sees.acc;
      flags = s.sees.sr;
      position = s.position;
      pc = pc_at p s.position;
    }

-- What `run_lines` promises of its answer and of the cells: ".. the cells hold what the lines left", and after a refusal "cells and output are unchanged."
abbrev pub LinesPromise : ℕ → List ℕ → List ℕ → Result LinesRun Refusal → List ℕ → Type 0
LinesPromise asked deck cells answer cells' =
    let number : ℕ = lines_refusal deck (length cells) in
    let p : Program = program deck in
    let end : LineState = after_lines p asked (at_start cells) in
    (number_and_values answer ≡ answered number (ran_as p (lines_of p asked (at_start cells)) (clocks_of p asked (at_start cells)) end))
    × (cells' ≡ cond (number == accepted) end.sees.cells cells)
