-- The text of the listing program, byte for byte.
-- Assumes nothing.
use Rattle.std.specs.Prelude.{◌≡◌, ℕ, zero, suc, ◌+◌, ◌/◌, ◌%◌, cond, List, [], ◌∷◌, ◌++◌, length, ◌==◌, nat_lt, slice_index, Result}
use Rattle.chip_core.specs.Refusal.{accepted, output_too_short, check, first_broken, number_and_values, answered}
use Rattle.chip_core.specs.declared.refusal.Refusal.{Refusal}
use Rattle.deck.specs.Deck.{deck_refusal}
use Rattle.deck.specs.Image.{image}
use Rattle.deck.specs.Operation.{program}
use Rattle.deck.specs.Translate.{starting_with}

abbrev pub newline : ℕ
newline = 10

abbrev pub space : ℕ
space = 32

-- a digit, in capitals where it is above 9
abbrev pub digit : ℕ → ℕ
digit d = cond (nat_lt d 10) (48 + d) (55 + d)

-- "in decimal": a number below 1,000, with no zeros before it
abbrev pub decimal : ℕ → List ℕ
decimal n =
    cond (nat_lt n 10) (digit (n % 10) ∷ [])
    (cond (nat_lt n 100) (digit (n / 10 % 10) ∷ digit (n % 10) ∷ [])
    (digit (n / 100 % 10) ∷ digit (n / 10 % 10) ∷ digit (n % 10) ∷ []))

-- "for each word its address in two hex digits, a space and the word in three, capitals, every line ended by a newline"
abbrev pub word_line : ℕ → ℕ → List ℕ
word_line place word =
    digit (place / 16 % 16) ∷ digit (place % 16) ∷ space ∷
    digit (word / 256 % 16) ∷ digit (word / 16 % 16) ∷ digit (word % 16) ∷ newline ∷ []

-- the lines of the first words of an image
unfoldable pub word_lines : List ℕ → ℕ → List ℕ
word_lines words zero = []
word_lines words (suc n) = word_lines words n ++ word_line n (slice_index words n)

-- `words `
abbrev pub words_text : List ℕ
words_text = 119 ∷ 111 ∷ 114 ∷ 100 ∷ 115 ∷ space ∷ []

-- `refused `
abbrev pub refused_text : List ℕ
refused_text = 114 ∷ 101 ∷ 102 ∷ 117 ∷ 115 ∷ 101 ∷ 100 ∷ space ∷ []

-- "It prints `words ` and W in decimal, then for each word ..; or one line, `refused ` and the number in decimal."
unfoldable pub listing_of : ℕ → List ℕ → List ℕ
listing_of number words =
    cond (number == accepted)
    (words_text ++ decimal (length words) ++ newline ∷ [] ++ word_lines words (length words))
    (refused_text ++ decimal number ++ newline ∷ [])

abbrev pub listing_text : List ℕ → List ℕ
listing_text deck = listing_of (deck_refusal deck) (image (program deck))

-- Document 01 has no number for a text longer than the room that is lent: 9 is our reading (docs/DECISIONS.md, 34).
abbrev pub listing_refusal : ℕ → ℕ → ℕ
listing_refusal count room = first_broken (check (nat_lt room count) output_too_short ∷ [])

-- what `listing` promises of its answer and of the output that it leaves
abbrev pub ListingPromise : List ℕ → List ℕ → Result ℕ Refusal → List ℕ → Type 0
ListingPromise deck output answer output' =
    let number : ℕ = listing_refusal (length (listing_text deck)) (length output) in
    (number_and_values answer ≡ answered number (length (listing_text deck)))
    × (output' ≡ cond (number == accepted) (starting_with (listing_text deck) output) output)
