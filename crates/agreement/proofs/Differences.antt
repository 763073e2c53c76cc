-- There is no first difference exactly where the two sides came to the same.
-- Assumes nothing.
use Rattle.std.proofs.Common.{◌≡◌, ℕ, Bool, true, false, cond, not, eqb, List, length, sym, refl, ap, true≢false, eq-eqb, eqb-true, Option, Some, None, Result, Ok, Err}
use Rattle.agreement.specs.Difference.{difference_at, first_difference}
use Rattle.agreement.specs.declared.difference.Difference.{Difference}
use Rattle.chip_core.specs.Instruction.{is_fetch}
use Rattle.chip_core.specs.Word.{program_address}
use Rattle.chip_core.specs.declared.address.ProgramAddress.{ProgramAddress}
use Rattle.chip_core.specs.declared.control.Stage.{Stage}
use Rattle.chip_core.specs.declared.control.Stage.TheVariants.{Fetch, Decode, Execute}
use Rattle.chip_core.specs.declared.machine.Machine.{Machine}
use Rattle.chip_core.specs.declared.refusal.Refusal.{Refusal}
use Rattle.deck.specs.Agreement.{Same}
use Rattle.deck.specs.declared.lines.LinesRun.{LinesRun}
use Rattle.agreement.proofs.Cells.{nowhere, same_cells}

-- where none is found, a comparison has passed, and none is found after it
passed_over : (same : Bool) (found : Difference) (after : Option Difference) → cond (not same) (Some found) after ≡ None → (same ≡ true) × (after ≡ None)
passed_over true found after e = (refl, e)
passed_over false found after e = absurd cc

at_fetch : (stage : Stage) → is_fetch stage ≡ true → stage ≡ Fetch
at_fetch Fetch e = refl
at_fetch Decode e = absurd (true≢false (sym e))
at_fetch Execute e = absurd (true≢false (sym e))

nowhere_found : (cells others : List ℕ) (o : Option ℕ) → difference_at cells others o ≡ None → o ≡ None
nowhere_found cells others None e = refl
nowhere_found cells others (Some place) e = absurd cc

module _ (ran : LinesRun) (cells : List ℕ) (clocked : Result Machine Refusal) (others : List ℕ) where
  -- where they came to the same, none is found
  pub none_found : Same ran cells clocked others → first_difference ran cells clocked others ≡ None
  unfolding first_difference
  none_found s =
      rw (
        s.accepts,
        eq-eqb s.machine.acc ran.acc s.acc,
        eq-eqb s.machine.sr ran.flags s.flags,
        eq-eqb s.machine.pc.0 ran.pc.0 (ap (λ (pc : ProgramAddress). pc.0) s.pc),
        s.fetches,
        s.all_cells,
        nowhere cells,
      )

-- and where none is found, they came to the same
pub same_where_none : (ran : LinesRun) (cells : List ℕ) (clocked : Result Machine Refusal) (others : List ℕ) → length cells ≡ length others
    → first_difference ran cells clocked others ≡ None → Same ran cells clocked others
unfolding first_difference
same_where_none ran cells (Err refusal) others k e = absurd cc
same_where_none ran cells (Ok machine) others k e =
    let acc = passed_over (eqb machine.acc ran.acc) _ _ e in
    let flags = passed_over (eqb machine.sr ran.flags) _ _ acc.1 in
    let pc = passed_over (eqb machine.pc.0 ran.pc.0) _ _ flags.1 in
    let stage = passed_over (is_fetch machine.stage) _ _ pc.1 in
    record {
      machine = machine;
      accepts = refl;
      acc = eqb-true machine.acc ran.acc acc.0;
      flags = eqb-true machine.sr ran.flags flags.0;
      pc = ap (λ (n : ℕ). program_address n) (eqb-true machine.pc.0 ran.pc.0 pc.0);
      fetches = at_fetch machine.stage stage.0;
      all_cells = sym (same_cells cells others k (nowhere_found cells others _ stage.1));
    }
