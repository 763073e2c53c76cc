-- Clocking a machine call by call is a run: no accepted call leaves a machine that the next call refuses, and a refused one leaves it as it was.
-- Assumes nothing.
use Rattle.std.proofs.Common.{◌≡◌, ◌≢◌, ℕ, zero, suc, ◌<◌, Bool, true, false, eqb, ltb, List, [], ◌∷◌, length, get_or, refl, ap, arith, lit<, ltb-false, le-ltb, eq-eqb, eqb-true, sym, ◌∙◌, true≢false, Result, Ok, Err}
use Rattle.chip_core.specs.Clock.{ir_after, clock, clock_refusal, ClockPromise, ClockInPlacePromise, RunPromise}
use Rattle.chip_core.specs.Control.{enabled, ir_e, control_row}
use Rattle.chip_core.specs.Iterate.{iterate}
use Rattle.chip_core.specs.Machine.{State, state, undrawn, memory_of, any_above_4095, leaves, Answers, AnswersInPlace}
use Rattle.chip_core.specs.Refusal.{accepted, NumberAndValues, refusal_number, number_of}
use Rattle.chip_core.specs.declared.machine.Machine.{Machine}
use Rattle.chip_core.specs.declared.refusal.Refusal.{Refusal}
use Rattle.chip_core.proofs.Answered.{is_ok, no_zero, not_zero, refused_tells}
use Rattle.chip_core.proofs.Choice.{either}
use Rattle.chip_core.proofs.Refusals.{neither, Ready, ready}
use Rattle.chip_core.proofs.Iteration.{iterate_last}
use Rattle.chip_core.proofs.Running.{stays_fit}

-- what is undrawn is a word
undrawn_lt : undrawn < 4096
unfolding undrawn
undrawn_lt = lit< tt

entry_lt : (image : List ℕ) (i : ℕ) → any_above_4095 image ≡ false → get_or image i undrawn < 4096
entry_lt [] i e = undrawn_lt
entry_lt (word ∷ words) zero e = let h = ltb-false 4095 word (neither (ltb 4095 word) _ e).0 in omega arith
entry_lt (word ∷ words) (suc i) e = entry_lt words i (neither (ltb 4095 word) _ e).1

-- the machine that a caller has after a call: the one that it answers, or the one that was handed in
abbrev pub machine_left : Machine → Result Machine Refusal → Machine
machine_left machine (Ok after) = after
machine_left machine (Err refusal) = machine

stands : (machine : Machine) (r : Result Machine Refusal) → refusal_number r ≢ accepted → machine_left machine r ≡ machine
stands machine (Ok after) n = absurd (n refl)
stands machine (Err refusal) n = refl

-- A CALL LEAVES ITS CALLER the machine after it, or, refused, the one that was handed in
pub comes_back : (number : ℕ) (before after : State) (answer : Result Machine Refusal) (cells : List ℕ) → Answers number before after answer cells
    → machine_left before.machine answer ≡ (leaves number before after).machine
comes_back number before after answer cells p = go (eqb number accepted) refl
  where
    go : (t : Bool) → eqb number accepted ≡ t → machine_left before.machine answer ≡ (leaves number before after).machine
    go true e =
        let z = eqb-true number accepted e in
        rw (z, is_ok answer after.machine (rw z at p.0))
    go false e =
        let refused : refusal_number answer ≡ number = ap (λ (a : NumberAndValues Machine). a.number) p.0 in
        rw e (stands before.machine answer (λ z. true≢false (sym (eq-eqb number 0 (sym refused ∙ z)) ∙ e)))

module _ (image : List ℕ) where
  abbrev Accepted : State → Type 0
  Accepted s = Ready s.machine image s.cells

  ir_lt : (s : State) → Accepted s → (clock (memory_of image) s).machine.ir < 4096
  unfolding clock ir_after
  ir_lt s r =
      let row = control_row s.machine.ir s.machine.stage s.machine.sr in
      either (λ (n : ℕ). n < 4096) (enabled ir_e row) _ _ (entry_lt image s.machine.pc.0 r.words) r.word

  pub still_accepted : (s : State) → Accepted s → Accepted (clock (memory_of image) s)
  still_accepted s r =
      record { short = r.short; words = r.words; fit = stays_fit (memory_of image) s r.fit; word = ir_lt s r }

  accepted_after : (n : ℕ) (s : State) → Accepted s → Accepted (iterate (clock (memory_of image)) n s)
  accepted_after zero s r = r
  accepted_after (suc n) s r = accepted_after n (clock (memory_of image) s) (still_accepted s r)

  -- where a call may go on, nothing is refused
  pub fine : (s : State) → Accepted s → clock_refusal s.machine image (length s.cells) ≡ accepted
  unfolding clock_refusal
  fine s r =
      let f = r.fit.flags in
      let w = r.word in
      let sr = le-ltb 15 s.machine.sr (omega arith) in
      let ir = le-ltb 4095 s.machine.ir (omega arith) in
      simp (le-ltb 256 (length image) r.short, r.words, eq-eqb (length s.cells) 16 r.fit.sixteen, sr, ir)

  -- ONE CLOCK AFTER A RUN IS A RUN OF ONE MORE, refused or not
  pub one_more : (n : ℕ) (machine : Machine) (cells : List ℕ) (r s : Result Machine Refusal) (left right : List ℕ)
      → RunPromise n machine image cells r left → ClockPromise (machine_left machine r) image left s right → RunPromise (suc n) machine image cells s right
  one_more n machine cells r s left right p q = go (eqb number accepted) refl
    where
      number : ℕ
      number = clock_refusal machine image (length cells)

      reached : State
      reached = iterate (clock (memory_of image)) n (state machine cells)

      m : machine_left machine r ≡ (leaves number (state machine cells) reached).machine
      m = comes_back number (state machine cells) reached r left p

      go : (t : Bool) → eqb number accepted ≡ t → RunPromise (suc n) machine image cells s right
      go true e =
          let z = eqb-true number accepted e in
          let f = fine reached (accepted_after n (state machine cells) (ready machine image cells z)) in
          rw (z, iterate_last (clock (memory_of image)) n (state machine cells)) (rw (m, p.1, z, f) at q)
      go false e = rw e (rw (m, p.1, e, e) at q)

-- A CLOCK OF A MACHINE THAT IS LENT IS A CLOCK BY VALUE: what its answer and the machine that it leaves are by value,
abbrev pub by_value : Machine → Result Unit Refusal → Result Machine Refusal
by_value left (Ok x) = Ok left
by_value left (Err refusal) = Err refusal

lent_as_given : (number : ℕ) (before after : State) (answer : Result Unit Refusal) (left : Machine) (cells : List ℕ)
    → AnswersInPlace number before after answer left cells
    → Answers number before after (by_value left answer) cells × (left ≡ machine_left before.machine (by_value left answer))
lent_as_given number before after (Ok x) left cells p =
    let z : number ≡ accepted = sym p.0 in
    let stands : left ≡ after.machine = (rw z at p.1) in
    ((rw (z, stands) refl, p.2), refl)
lent_as_given number before after (Err refusal) left cells p =
    let kept : left ≡ before.machine = (rw (sym p.0, no_zero refusal) at p.1) in
    ((rw (sym p.0, no_zero refusal) refl, p.2), kept)

-- is what `clock` promises of the same machine, image and cells, and the machine that is left is the one that its caller has,
pub in_place_by_value : (machine : Machine) (image cells : List ℕ) (answer : Result Unit Refusal) (left : Machine) (after : List ℕ)
    → ClockInPlacePromise machine image cells answer left after
    → ClockPromise machine image cells (by_value left answer) after × (left ≡ machine_left machine (by_value left answer))
in_place_by_value machine image cells answer left after p = lent_as_given _ _ _ answer left after p

-- (where it is refused too: then the run before it was, and the machine is the one that the run was given)
stands_on : (image : List ℕ) (n : ℕ) (machine : Machine) (cells : List ℕ) (r : Result Machine Refusal) (left : List ℕ)
    (answer : Result Unit Refusal) (after : Machine) (right : List ℕ)
    → RunPromise n machine image cells r left → ClockInPlacePromise (machine_left machine r) image left answer after right
    → after ≡ machine_left machine (by_value after answer)
stands_on image n machine cells r left (Ok x) after right p q = refl
stands_on image n machine cells r left (Err refusal) after right p q =
    let clocked = in_place_by_value (machine_left machine r) image left (Err refusal) after right q in
    let more = one_more image n machine cells r (Err refusal) left right p clocked.0 in
    let number : number_of refusal ≡ clock_refusal machine image (length cells) = refused_tells _ _ refusal more.0 in
    let same : refusal_number r ≡ clock_refusal machine image (length cells) = ap (λ (a : NumberAndValues Machine). a.number) p.0 in
    clocked.1 ∙ stands machine r (λ z. not_zero refusal (number ∙ sym same ∙ z))

-- so that a clock more where the machine stands is a run of one more, whose caller has the machine that stands: the next clock goes on from it
pub one_more_in_place : (image : List ℕ) (n : ℕ) (machine : Machine) (cells : List ℕ) (r : Result Machine Refusal) (left : List ℕ)
    (answer : Result Unit Refusal) (after : Machine) (right : List ℕ)
    → RunPromise n machine image cells r left → ClockInPlacePromise (machine_left machine r) image left answer after right
    → RunPromise (suc n) machine image cells (by_value after answer) right × (after ≡ machine_left machine (by_value after answer))
one_more_in_place image n machine cells r left answer after right p q =
    let clocked = in_place_by_value (machine_left machine r) image left answer after right q in
    (one_more image n machine cells r (by_value after answer) left right p clocked.0, stands_on image n machine cells r left answer after right p q)
