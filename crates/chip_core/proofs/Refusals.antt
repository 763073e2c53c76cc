-- What is known where a call over a machine is not refused, and how 33 stands after the other checks.
-- Assumes nothing.
use Rattle.std.proofs.Common.{◌≡◌, ℕ, ◌<◌, ◌≤◌, Bool, true, false, cond, not, ◌||◌, eqb, ltb, List, [], ◌∷◌, length, refl, true≢false, arith, ltb-false, eqb-true, Result, Ok, Err}
use Rattle.std.specs.Result.{result_and}
use borrow.Author.Tests.{not-false}
use Rattle.chip_core.specs.Clock.{clock_refusal}
use Rattle.chip_core.specs.Instruction.{is_fetch, instruction_refusal}
use Rattle.chip_core.specs.Machine.{State, state, any_above_4095, machine_checks, leaves, Answers}
use Rattle.chip_core.specs.Refusal.{accepted, fetch_not_next, check, refusal_number, answered}
use Rattle.chip_core.specs.declared.machine.Machine.{Machine}
use Rattle.chip_core.specs.declared.refusal.Refusal.{Refusal}
use Rattle.chip_core.specs.declared.refusal.Refusal.TheVariants.{FetchNotNext}
use Rattle.chip_core.proofs.Answered.{no_zero}
use Rattle.chip_core.proofs.Finite.{◌&◌}
use Rattle.chip_core.proofs.Order.{passed, tried_then}
use Rattle.chip_core.proofs.Running.{Fit}

pub neither : (t u : Bool) → (t || u) ≡ false → (t ≡ false) × (u ≡ false)
neither true u e = absurd (true≢false e)
neither false u e = (refl, e)

-- what holds where nothing is refused
pub record Ready (machine : Machine) (image cells : List ℕ) : Type 0 where
  pub short : length image ≤ 256
  pub words : any_above_4095 image ≡ false
  pub fit : Fit (state machine cells)
  pub word : machine.ir < 4096

pub ready : (machine : Machine) (image cells : List ℕ) → clock_refusal machine image (length cells) ≡ accepted → Ready machine image cells
unfolding clock_refusal
ready machine image cells e =
    let a = passed (ltb 256 (length image)) 10 _ e in
    let b = passed (any_above_4095 image) 9 _ a.1 in
    let c = passed (not (eqb (length cells) 16)) 11 _ b.1 in
    let d = passed (ltb 15 machine.sr || ltb 4095 machine.ir) 12 _ c.1 in
    let n = neither (ltb 15 machine.sr) (ltb 4095 machine.ir) d.0 in
    let s = ltb-false 15 machine.sr n.0 in
    let w = ltb-false 4095 machine.ir n.1 in
    record {
      short = ltb-false 256 (length image) a.0;
      words = b.0;
      fit = record { flags = omega arith; sixteen = eqb-true (length cells) 16 (not-false _ c.0) };
      word = omega arith;
    }

module _ (machine : Machine) (image : List ℕ) (count : ℕ) where
  -- with FETCH next, an instruction refuses what a clock refuses
  pub fetch_next : is_fetch machine.stage ≡ true → instruction_refusal machine image count ≡ clock_refusal machine image count
  unfolding instruction_refusal clock_refusal
  fetch_next e = rw e

  -- else it refuses everything, and 33 is the last number tried
  pub fetch_not_next_lem : is_fetch machine.stage ≡ false
      → instruction_refusal machine image count ≡ cond (eqb (clock_refusal machine image count) accepted) fetch_not_next (clock_refusal machine image count)
  unfolding instruction_refusal clock_refusal
  fetch_not_next_lem e = rw e (tried_then (machine_checks machine image count) (check true fetch_not_next ∷ []) (refl & refl & refl & refl & tt))

-- and that is never 0
pub never_accepted : (n : ℕ) → eqb (cond (eqb n accepted) fetch_not_next n) accepted ≡ false
never_accepted n = go (eqb n accepted) refl
  where
    go : (t : Bool) → eqb n accepted ≡ t → eqb (cond t fetch_not_next n) accepted ≡ false
    go true e = refl
    go false e = e

-- a call that is refused answers no value, and leaves the cells
pub refused : (number : ℕ) (before after : State) → eqb number accepted ≡ false
    → (record { number = number; values = [] } ≡ answered number after.machine) × (before.cells ≡ (leaves number before after).cells)
refused number before after e = rw e (refl, refl)

-- which is what the answer of the checks gives, and 33 after it
pub tries_33 : (checked : Result Unit Refusal) (before after : State)
    → Answers (cond (eqb (refusal_number checked) accepted) fetch_not_next (refusal_number checked)) before after
    (result_and checked (Err FetchNotNext)) before.cells
tries_33 (Ok x) before after = (refl, refl)
tries_33 (Err refusal) before after = rw (no_zero refusal) (refused _ before after (no_zero refusal))
