-- What a deck run both ways answers: on an accepted deck, that there is no difference.
-- Assumes nothing.
use Rattle.std.specs.Prelude.{◌≡◌, ℕ, List, length, None, Result}
use Rattle.chip_core.specs.Refusal.{number_and_values, answered}
use Rattle.chip_core.specs.declared.refusal.Refusal.{Refusal}
use Rattle.deck.specs.Lines.{at_start, lines_of, clocks_of, lines_refusal}
use Rattle.deck.specs.Operation.{program}
use Rattle.agreement.specs.declared.agree.Compared.{Compared}

-- the two ways agree, after so many lines and clocks
abbrev pub agreed_after : ℕ → ℕ → Compared
agreed_after lines clocks = record { lines = lines; clocks = clocks; difference = None }

-- what `agree` promises of its answer: it refuses what the line runner refuses, and finds agreement on every deck that is accepted
abbrev pub AgreePromise : ℕ → List ℕ → List ℕ → Result Compared Refusal → Type 0
AgreePromise asked deck cells answer =
    number_and_values answer
    ≡ answered (lines_refusal deck (length cells)) (agreed_after (lines_of (program deck) asked (at_start cells)) (clocks_of (program deck) asked (at_start cells)))
