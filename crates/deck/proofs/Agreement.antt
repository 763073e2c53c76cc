-- Demand 3. What one line keeps between the run of lines and the machine, n lines keep; a fresh load is one of the places to begin. The promises of the functions
-- then say that the runs are those of `translate`, `run_lines`, `fresh` and `run`.
-- Assumes nothing.
use Rattle.std.proofs.Common.{◌≡◌, ℕ, ◌+◌, ◌*◌, Bool, true, false, cond, eqb, ltb, List, length, sym, refl, ap, ◌∙◌, arith, ltb-true, Result}
use Rattle.chip_core.proofs.Answered.{is_ok}
use Rattle.chip_core.proofs.Effects.{none_changed}
use Rattle.chip_core.proofs.Iteration.{total_times, kept_together}
use Rattle.chip_core.specs.Clock.{clock}
use Rattle.chip_core.specs.Instruction.{visible}
use Rattle.chip_core.specs.Machine.{State, memory_of, state, freshly_loaded}
use Rattle.chip_core.specs.Refusal.{accepted, number_and_values, answered}
use Rattle.chip_core.specs.Rule.{Visible, OneCell}
use Rattle.chip_core.specs.declared.refusal.Refusal.{Refusal}
use Rattle.deck.specs.Agreement.{Agree, after_clocks, AgreesFromAnyLine, AgreesFromLoad, RunsAgree, FunctionsAgree, OneCellALine, Demand3}
use Rattle.deck.specs.Bytes.{line_count}
use Rattle.deck.specs.Deck.{deck_refusal}
use Rattle.deck.specs.Image.{address, image}
use Rattle.deck.specs.Lines.{line_state, line_step, line_cost, line_executed, LineState, lines_of, clocks_of, words_executed, at_start, ran_as, LinesPromise, after_lines, lines_refusal}
use Rattle.deck.specs.Operation.{Program, program, operation_at}
use Rattle.deck.specs.declared.lines.LinesRun.{LinesRun}
use Rattle.deck.proofs.Accepted.{lines_as, deck_accepted, image_at_start}
use Rattle.deck.proofs.Instructions.{line_in_range, image_accepted}
use Rattle.deck.proofs.OneLine.{after_line_lem}
use Rattle.deck.proofs.Runs.{one_more_cell}
use Rattle.deck.proofs.Sound.{Sound, line_lands, sound}

module _ (deck : List ℕ) (s : Sound deck) where
  abbrev p : Program
  p = program deck

  one_by : (position : ℕ) (m : State) (test : Bool) → ltb position (line_count deck) ≡ test → Agree p (line_state position (visible m)) m
      → Agree p (line_step p (line_state position (visible m))) (after_clocks p (line_cost p (line_state position (visible m))) m)
  unfolding line_step line_executed
  one_by position m true e a =
      let h = ltb-true position (line_count deck) e in
      rw e (after_line_lem p s.small position h m a.pc a.fetches (operation_at deck position) refl (line_lands deck s position h)
      (line_in_range deck s position h (address p position)))
  one_by position m false e a = rw e a

  -- one line, or none where the run has passed the last
  one : (lines : LineState) (m : State) → Agree p lines m → Agree p (line_step p lines) (after_clocks p (line_cost p lines) m)
  one lines m a = rw same (one_by lines.position m (ltb lines.position (line_count deck)) refl (rw same at a))
    where
      same : lines ≡ line_state lines.position (visible m)
      same = ap (λ (v : Visible). line_state lines.position v) (sym a.sees)

  clocks_of_lem : (n : ℕ) (lines : LineState) → clocks_of p n lines ≡ 3 * words_executed p n lines
  clocks_of_lem = total_times (line_step p) (line_cost p) (line_executed p) 3 (λ lines. refl)

  -- n lines
  from_any_line : AgreesFromAnyLine p
  from_any_line n lines m a =
      record {
        agree = rw (clocks_of_lem n lines) at (kept_together (line_step p) (line_cost p) (clock (memory_of (image p))) (Agree p) one n lines m a);
        clocks = clocks_of_lem n lines;
        one_cell = λ k h. one_more_cell p k lines;
      }

  from_load : AgreesFromLoad p
  unfolding address
  from_load n cells =
      from_any_line n (at_start cells) (state freshly_loaded cells) (record { sees = refl; pc = refl; inside = omega arith; fetches = refl })

-- DEMAND 3
pub demand_3 : Demand3
demand_3 deck ok = (from_any_line deck (sound deck ok), from_load deck (sound deck ok))

-- the line runner, and a run of the image for the clocks that it reports
pub runs_agree : (deck start : List ℕ) (asked : ℕ) → deck_refusal deck ≡ accepted → length start ≡ 16
    → (answer : Result LinesRun Refusal) (cells : List ℕ) → LinesPromise asked deck start answer cells
    → RunsAgree answer cells (3 * words_executed (program deck) asked (at_start start)) freshly_loaded (image (program deck)) start
runs_agree deck start asked ok sixteen answer cells l =
    let p = program deck in
    let b = lines_as asked deck start answer cells ok sixteen l in
    let g = (demand_3 deck ok).1 asked start in
    let after : State = after_clocks p (3 * words_executed p asked (at_start start)) (state freshly_loaded start) in
    record {
      ran = ran_as p (lines_of p asked (at_start start)) (clocks_of p asked (at_start start)) (after_lines p asked (at_start start));
      accepts = b.0;
      reports = g.clocks;
      same = λ clocked others r.
          let c : (number_and_values clocked ≡ answered accepted after.machine) × (others ≡ after.cells) =
          rw (g.clocks, image_accepted deck (sound deck ok) start sixteen) at r in
          record {
            machine = after.machine;
            accepts = is_ok clocked after.machine c.0;
            acc = ap (λ (v : Visible). v.acc) g.agree.sees;
            flags = ap (λ (v : Visible). v.sr) g.agree.sees;
            pc = g.agree.pc;
            fetches = g.agree.fetches;
            all_cells = c.1 ∙ ap (λ (v : Visible). v.cells) g.agree.sees ∙ sym b.1;
          };
    }

-- OF THE FUNCTIONS
pub functions_agree : FunctionsAgree
functions_agree deck output start asked sixteen translated output' t words ok answer cells l machine fresh =
    let accepts = deck_accepted deck output translated output' t words ok in
    rw (fresh, image_at_start deck output translated output' t words ok) (runs_agree deck start asked accepts sixteen answer cells l)

left_by : (deck start : List ℕ) (asked : ℕ) (test : Bool) (before after : List ℕ)
    → before ≡ cond test (after_lines (program deck) asked (at_start start)).sees.cells start
    → after ≡ cond test (after_lines (program deck) (asked + 1) (at_start start)).sees.cells start → OneCell before after
left_by deck start asked true before after e f = rw (e, f) (one_more_cell (program deck) asked (at_start start))
left_by deck start asked false before after e f = rw (e, f) (none_changed start)

pub one_cell_a_line : OneCellALine
one_cell_a_line deck start asked ran longer before after l m =
    left_by deck start asked (eqb (lines_refusal deck (length start)) accepted) before after l.1 m.1
