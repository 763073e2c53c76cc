-- The refusals of a deck, in document 01's order: "Deck: 1 for K and labels, 1 for L, 3, 1 for records, 2, then 4 in label order, then line by line 5, 6,
-- 7, then 8."
-- Assumes nothing.
use Rattle.std.specs.Prelude.{◌≡◌, ℕ, zero, suc, not, List, [], ◌∷◌, ◌++◌, length, nat_lt, Result}
use Rattle.chip_core.specs.Refusal.{deck_too_short, bytes_after_lines, lines_above_256, label_not_below_lines, operation_above_27, second_byte_not_allowed, operand_not_allowed, words_above_256, Check, check, first_broken, refusal_number}
use Rattle.chip_core.specs.declared.refusal.Refusal.{Refusal}
use Rattle.deck.specs.Bytes.{label_count, label_line, line_count_at, line_count, record_at, operation_byte, second_byte, operand_byte}
use Rattle.deck.specs.Image.{total_words}
use Rattle.deck.specs.Operation.{row_of, program}

-- "1 for K and labels, 1 for L, 3, 1 for records, 2"
abbrev pub layout_checks : List ℕ → List Check
layout_checks deck =
    check (nat_lt (length deck) (line_count_at deck)) deck_too_short ∷
    check (nat_lt (length deck) (record_at deck 0)) deck_too_short ∷
    check (nat_lt 256 (line_count deck)) lines_above_256 ∷
    check (nat_lt (length deck) (record_at deck (line_count deck))) deck_too_short ∷
    check (nat_lt (record_at deck (line_count deck)) (length deck)) bytes_after_lines ∷ []

-- the checks of the first n of something, in their order
abbrev pub each : (ℕ → List Check) → ℕ → List Check
each checks zero = []
each checks (suc n) = each checks n ++ checks n

-- "then 4 in label order": "a label's line not below L"
abbrev pub checks_of_label : List ℕ → ℕ → List Check
checks_of_label deck label = check (not (nat_lt (label_line deck label) (line_count deck))) label_not_below_lines ∷ []

abbrev pub label_checks : List ℕ → List Check
label_checks deck = each (checks_of_label deck) (label_count deck)

-- "then line by line 5, 6, 7": the checks of a record, of which 6 and 7 are "second byte not allowed" and "operand not allowed" by the bounds of its row
abbrev pub bound_checks : ℕ → ℕ → ℕ → ℕ → List Check
bound_checks seconds operands second operand =
    check (not (nat_lt second seconds)) second_byte_not_allowed ∷ check (not (nat_lt operand operands)) operand_not_allowed ∷ []

abbrev pub record_checks : List ℕ → ℕ → ℕ → ℕ → List Check
record_checks deck operation second operand =
    check (nat_lt 27 operation) operation_above_27 ∷
    bound_checks (row_of deck operation).seconds (row_of deck operation).operands second operand

abbrev pub checks_of_line : List ℕ → ℕ → List Check
checks_of_line deck line = record_checks deck (operation_byte deck line) (second_byte deck line) (operand_byte deck line)

abbrev pub line_checks : List ℕ → List Check
line_checks deck = each (checks_of_line deck) (line_count deck)

-- "then 8": "W above 256"
abbrev pub words_checks : List ℕ → List Check
words_checks deck = check (nat_lt 256 (total_words (program deck))) words_above_256 ∷ []

abbrev pub deck_checks : List ℕ → List Check
deck_checks deck = layout_checks deck ++ (label_checks deck ++ (line_checks deck ++ words_checks deck))

unfoldable pub deck_refusal : List ℕ → ℕ
deck_refusal deck = first_broken (deck_checks deck)

-- what `check` promises of its answer
abbrev pub CheckPromise : List ℕ → Result Unit Refusal → Type 0
CheckPromise deck answer = refusal_number answer ≡ deck_refusal deck
