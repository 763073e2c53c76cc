-- A deck run both ways: what the line runner refuses is refused, and else the two runs came to the same (`runs_agree`), so that no difference is found.
-- Assumes nothing.
use Rattle.std.proofs.Common.{◌≡◌, ◌≢◌, ℕ, ne_eqb, List, length, sym, refl, ◌∙◌, Option, None, Result, Ok, Err}
use Rattle.agreement.specs.Agree.{AgreePromise}
use Rattle.agreement.specs.Difference.{first_difference}
use Rattle.agreement.specs.declared.difference.Difference.{Difference}
use Rattle.chip_core.proofs.Answered.{no_zero, ok_is}
use Rattle.chip_core.specs.Clock.{RunPromise}
use Rattle.chip_core.specs.Machine.{freshly_loaded}
use Rattle.chip_core.specs.Refusal.{accepted, number_of, refusal_number}
use Rattle.chip_core.specs.declared.machine.Machine.{Machine}
use Rattle.chip_core.specs.declared.refusal.Refusal.{Refusal}
use Rattle.chip_core.specs.declared.refusal.Refusal.TheVariants.{NotSixteenCells}
use Rattle.deck.proofs.Accepted.{lines_number, lines_accepted, lines_as, not_sixteen}
use Rattle.deck.proofs.Agreement.{runs_agree}
use Rattle.deck.specs.Deck.{deck_refusal}
use Rattle.deck.specs.Image.{image}
use Rattle.deck.specs.Lines.{LinesPromise, lines_refusal}
use Rattle.deck.specs.Operation.{program}
use Rattle.deck.specs.declared.lines.LinesRun.{LinesRun}
use Rattle.agreement.proofs.Differences.{none_found}

-- a refusal with the number that is due
by_its_number : (asked : ℕ) (deck cells : List ℕ) (refusal : Refusal) → number_of refusal ≡ lines_refusal deck (length cells) → AgreePromise asked deck cells (Err refusal)
by_its_number asked deck cells refusal e = rw (sym e, no_zero refusal)

module _ (asked : ℕ) (deck cells : List ℕ) (answer : Result LinesRun Refusal) (left : List ℕ) (l : LinesPromise asked deck cells answer left) where
  pub both_agree : (ran : LinesRun) → answer ≡ Ok ran → length cells ≡ 16
      → (clocked : Result Machine Refusal) (others : List ℕ) → RunPromise ran.clocks freshly_loaded (image (program deck)) cells clocked others
      → (difference : Option Difference) → difference ≡ first_difference ran left clocked others
      → AgreePromise asked deck cells (Ok (record { lines = ran.lines; clocks = ran.clocks; difference = difference }))
  both_agree ran ok sixteen clocked others r difference d =
      let number : refusal_number answer ≡ accepted = rw ok refl in
      let accepts = lines_accepted asked deck cells answer left l number in
      let run = ok_is (sym ok ∙ (lines_as asked deck cells answer left accepts sixteen l).0) in
      let agree = runs_agree deck cells asked accepts sixteen answer left l in
      let same = agree.same clocked others (rw (ok_is (sym ok ∙ agree.accepts)) at r) in
      let none : difference ≡ None = d ∙ rw (ok_is (sym ok ∙ agree.accepts)) (none_found agree.ran left clocked others same) in
      rw (sym (lines_number asked deck cells answer left l), number, none, run)

-- without sixteen cells
module _ (asked : ℕ) (deck cells : List ℕ) (fewer : length cells ≢ 16) where
  pub deck_refused : (refusal : Refusal) → number_of refusal ≡ deck_refusal deck → AgreePromise asked deck cells (Err refusal)
  deck_refused refusal f =
      by_its_number asked deck cells refusal (sym (not_sixteen deck (length cells) (ne_eqb _ _ fewer) ∙ rw (sym f, no_zero refusal)))

  pub cells_refused : accepted ≡ deck_refusal deck → AgreePromise asked deck cells (Err NotSixteenCells)
  cells_refused f = by_its_number asked deck cells NotSixteenCells (sym (not_sixteen deck (length cells) (ne_eqb _ _ fewer) ∙ rw (sym f)))
