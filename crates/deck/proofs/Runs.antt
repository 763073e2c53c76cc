-- What the loop of the line runner goes by: one line more is the last one, and a run that has passed the last line stays as it is and costs nothing.
-- Assumes nothing.
use Rattle.std.proofs.Common.{◌≡◌, ℕ, ◌+◌, ◌-◌, ◌*◌, ◌<◌, ◌≤◌, Bool, true, false, ltb, sym, refl, ap, ◌∙◌, add-zero, add-one, arith, le-ltb, lt-ltb}
use Rattle.chip_core.proofs.Choice.{either}
use Rattle.chip_core.proofs.Effects.{effect_flags, effect_one, pass_leaves, none_changed}
use Rattle.chip_core.proofs.Iteration.{iterate_last, total_last, iterate_still, total_still, iterate_add, total_add}
use Rattle.chip_core.specs.Rule.{Act, Visible, OneCell, effect}
use Rattle.chip_core.specs.Word.{flag}
use Rattle.deck.specs.Lines.{LineState, line_effect, line_next, executed, after_line, line_step, line_cost, line_tally, after_lines, lines_of, clocks_of, line_executed}
use Rattle.deck.specs.Operation.{Program}
use Rattle.deck.specs.Private.{Lands}
use Rattle.deck.specs.declared.operation.Operation.{Operation}

module _ (p : Program) (s : LineState) where
  module _ (h : s.position < p.count) where
    is_stepped : line_step p s ≡ after_line (p.line s.position) s
    unfolding line_step
    is_stepped = rw (lt-ltb s.position p.count h)

    its_cost : line_cost p s ≡ 3 * executed (p.line s.position) s.sees.sr
    unfolding line_executed
    its_cost = rw (lt-ltb s.position p.count h)

    its_tally : line_tally p s ≡ 1
    unfolding line_tally
    its_tally = rw (lt-ltb s.position p.count h)

  module _ (h : p.count ≤ s.position) where
    still : line_step p s ≡ s
    unfolding line_step
    still = rw (le-ltb s.position p.count h)

    no_cost : line_cost p s ≡ 0
    unfolding line_executed
    no_cost = rw (le-ltb s.position p.count h)

    no_tally : line_tally p s ≡ 0
    unfolding line_tally
    no_tally = rw (le-ltb s.position p.count h)

-- a run of n lines that has come to a state
module _ (p : Program) (start : LineState) (n : ℕ) (s : LineState) (at : s ≡ after_lines p n start) where
  -- with a line there, one more is run
  module _ (h : s.position < p.count) where
    pub goes_on : after_line (p.line s.position) s ≡ after_lines p (n + 1) start
    goes_on = sym (is_stepped p s h) ∙ rw (add-one, iterate_last (line_step p) n start) (ap (line_step p) at)

    pub one_line_more : (lines : ℕ) → lines ≡ lines_of p n start → lines + 1 ≡ lines_of p (n + 1) start
    one_line_more lines e = rw (add-one n, total_last (line_step p) (line_tally p) n start, sym at, its_tally p s h, e)

    pub clocks_more : (clocks : ℕ) → clocks ≡ clocks_of p n start
        → clocks + 3 * executed (p.line s.position) s.sees.sr ≡ clocks_of p (n + 1) start
    clocks_more clocks e = rw (add-one n, total_last (line_step p) (line_cost p) n start, sym at, its_cost p s h, e)

  -- past the last line, more lines asked for change nothing
  module _ (h : p.count ≤ s.position) (asked : ℕ) (le : n ≤ asked) where
    rest : asked ≡ n + (asked - n)
    rest = omega arith

    pub stopped : s ≡ after_lines p asked start
    stopped =
        at ∙ sym (iterate_still (line_step p) (after_lines p n start) (rw (sym at) (still p s h)) (asked - n))
        ∙ sym (iterate_add (line_step p) n (asked - n) start) ∙ ap (λ (k : ℕ). after_lines p k start) (sym rest)

    pub stopped_lines : lines_of p n start ≡ lines_of p asked start
    stopped_lines =
        sym (ap (λ (k : ℕ). lines_of p k start) rest ∙ total_add (line_step p) (line_tally p) n (asked - n) start
        ∙ ap (λ (k : ℕ). lines_of p n start + k) (total_still (line_step p) (line_tally p) (after_lines p n start) (rw (sym at) (still p s h)) (rw (sym at) (no_tally p s h)) (asked - n))
        ∙ add-zero (lines_of p n start))

    pub stopped_clocks : clocks_of p n start ≡ clocks_of p asked start
    stopped_clocks =
        sym (ap (λ (k : ℕ). clocks_of p k start) rest ∙ total_add (line_step p) (line_cost p) n (asked - n) start
        ∙ ap (λ (k : ℕ). clocks_of p n start + k) (total_still (line_step p) (line_cost p) (after_lines p n start) (rw (sym at) (still p s h)) (rw (sym at) (no_cost p s h)) (asked - n))
        ∙ add-zero (clocks_of p n start))

-- a line executes at most two words
pub executed_le : (operation : Operation) (flags : ℕ) → executed operation flags ≤ 2
executed_le (Operation.M d mode cell) flags = omega arith
executed_le (Operation.I mode immediate) flags = omega arith
executed_le (Operation.Goto line) flags = omega arith
executed_le (Operation.JumpIf f line) flags = omega arith
executed_le (Operation.JumpUnless f line) flags = either (λ (k : ℕ). k ≤ 2) (flag f flags) 1 2 (omega arith) (omega arith)
executed_le Operation.Nop flags = omega arith

-- from a line, a run comes to a line or to the position past the last
pub lands_next : (operation : Operation) (count position flags : ℕ) → Lands count operation → position < count → line_next operation position flags ≤ count
lands_next (Operation.M d mode cell) count position flags l h = omega arith
lands_next (Operation.I mode immediate) count position flags l h = omega arith
lands_next (Operation.Goto line) count position flags l h = omega arith
lands_next (Operation.JumpIf f line) count position flags l h =
    either (λ (k : ℕ). k ≤ count) (flag f flags) line (position + 1) (omega arith) (omega arith)
lands_next (Operation.JumpUnless f line) count position flags l h =
    either (λ (k : ℕ). k ≤ count) (flag f flags) (position + 1) line (omega arith) (omega arith)
lands_next Operation.Nop count position flags l h = omega arith

-- what a line does to what is seen is an act: a jump passes
abbrev acting : Operation → Act
acting (Operation.M d mode cell) = Act.OnCell d mode cell
acting (Operation.I mode immediate) = Act.OnImmediate mode immediate
acting (Operation.Goto line) = Act.Pass
acting (Operation.JumpIf f line) = Act.Pass
acting (Operation.JumpUnless f line) = Act.Pass
acting Operation.Nop = Act.Pass

acts : (operation : Operation) (v : Visible) → effect (acting operation) v ≡ line_effect operation v
acts (Operation.M d mode cell) v = refl
acts (Operation.I mode immediate) v = refl
acts (Operation.Goto line) v = pass_leaves v
acts (Operation.JumpIf f line) v = pass_leaves v
acts (Operation.JumpUnless f line) v = pass_leaves v
acts Operation.Nop v = pass_leaves v

-- so it keeps four bits of flags, and changes one cell at most
pub line_flags : (operation : Operation) (v : Visible) → v.sr < 16 → (line_effect operation v).sr < 16
line_flags operation v h = rw (acts operation v) at (effect_flags (acting operation) v h)

pub line_one : (operation : Operation) (v : Visible) → OneCell v.cells (line_effect operation v).cells
line_one operation v = rw (acts operation v) at (effect_one (acting operation) v)

one_cell_by : (p : Program) (s : LineState) (test : Bool) → ltb s.position p.count ≡ test → OneCell s.sees.cells (line_step p s).sees.cells
unfolding line_step
one_cell_by p s true e = rw e (line_one (p.line s.position) s.sees)
one_cell_by p s false e = rw e (none_changed s.sees.cells)

pub one_more_cell : (p : Program) (n : ℕ) (start : LineState) → OneCell (after_lines p n start).sees.cells (after_lines p (n + 1) start).sees.cells
one_more_cell p n start = rw (add-one, iterate_last (line_step p) n start) (one_cell_by p (after_lines p n start) _ refl)
