-- What the translator answers and leaves in its output.
-- Assumes nothing.
use Rattle.std.specs.Prelude.{◌≡◌, ℕ, cond, List, [], ◌∷◌, ◌++◌, length, drop, ◌==◌, nat_lt, Result}
use Rattle.chip_core.specs.Refusal.{accepted, output_too_short, check, first_broken, number_and_values, answered}
use Rattle.chip_core.specs.declared.refusal.Refusal.{Refusal}
use Rattle.deck.specs.Deck.{deck_checks}
use Rattle.deck.specs.Image.{total_words, image}
use Rattle.deck.specs.Operation.{program}

-- "The translator then tries 9": "output shorter than W"
unfoldable pub translate_refusal : List ℕ → ℕ → ℕ
translate_refusal deck room =
    first_broken (deck_checks deck ++ check (nat_lt room (total_words (program deck))) output_too_short ∷ [])

-- "A call that writes output returns the count of items written .. and touches no output beyond them." The output with these items at its start:
abbrev pub starting_with : List ℕ → List ℕ → List ℕ
starting_with items output = items ++ drop (length items) output

-- what `translate` promises of its answer and of the output that it leaves
abbrev pub TranslatePromise : List ℕ → List ℕ → Result ℕ Refusal → List ℕ → Type 0
TranslatePromise deck output answer output' =
    let number : ℕ = translate_refusal deck (length output) in
    (number_and_values answer ≡ answered number (total_words (program deck)))
    × (output' ≡ cond (number == accepted) (starting_with (image (program deck)) output) output)
