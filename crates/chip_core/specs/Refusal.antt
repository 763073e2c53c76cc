-- Document 01's "Refusal numbers" by name, and which number a call gives where several rules are broken.
-- Assumes nothing.
use Rattle.std.specs.Prelude.{◌≡◌, ℕ, Bool, cond, List, [], ◌∷◌, ◌==◌, Result, Ok, Err}
use Rattle.std.specs.Fmt.{decimal}
use Rattle.chip_core.specs.declared.refusal.Refusal.{Refusal}
use Rattle.chip_core.specs.declared.refusal.Refusal.TheVariants.{DeckTooShort, BytesAfterLines, LinesAbove256, LabelNotBelowLines, OperationAbove27, SecondByteNotAllowed, OperandNotAllowed, WordsAbove256, OutputTooShort, WordAbove4095, ImageAbove256Words, NotSixteenCells, RegisterOutOfRange, FieldOutOfRange, FetchNotNext}

-- no rule is broken: the call is accepted
abbrev pub accepted : ℕ
accepted = 0

-- 1: "deck shorter than its counts"
abbrev pub deck_too_short : ℕ
deck_too_short = 1

-- 2: "bytes after the lines"
abbrev pub bytes_after_lines : ℕ
bytes_after_lines = 2

-- 3: "L above 256"
abbrev pub lines_above_256 : ℕ
lines_above_256 = 3

-- 4: "a label's line not below L"
abbrev pub label_not_below_lines : ℕ
label_not_below_lines = 4

-- 5: "operation above 27"
abbrev pub operation_above_27 : ℕ
operation_above_27 = 5

-- 6: "second byte not allowed"
abbrev pub second_byte_not_allowed : ℕ
second_byte_not_allowed = 6

-- 7: "operand not allowed: cell above 15, label not below K, NOP operand not 0"
abbrev pub operand_not_allowed : ℕ
operand_not_allowed = 7

-- 8: "W above 256"
abbrev pub words_above_256 : ℕ
words_above_256 = 8

-- 9: "output shorter than W"
abbrev pub output_too_short : ℕ
output_too_short = 9

-- 10: "word above 4095"
abbrev pub word_above_4095 : ℕ
word_above_4095 = 10

-- 11: "image above 256 words"
abbrev pub image_above_256_words : ℕ
image_above_256_words = 11

-- 12: "not exactly 16 cells"
abbrev pub not_sixteen_cells : ℕ
not_sixteen_cells = 12

-- 13: "SR above 15 or IR above 4095"
abbrev pub register_out_of_range : ℕ
register_out_of_range = 13

-- 14: "an instruction field or mode outside its range"
abbrev pub field_out_of_range : ℕ
field_out_of_range = 14

-- 33: "one instruction asked for when FETCH is not next"
abbrev pub fetch_not_next : ℕ
fetch_not_next = 33

-- one check: whether its rule is broken, and the number that it then gives
pub record Check : Type 0 where
  pub broken : Bool
  pub number : ℕ

abbrev pub check : Bool → ℕ → Check
check broken number = record { broken = broken; number = number }

-- "Order.": the checks are tried in the order of the list, and the first broken rule gives its number
abbrev pub first_broken : List Check → ℕ
first_broken [] = accepted
first_broken (c ∷ cs) = cond c.broken c.number (first_broken cs)

-- "Where an answer is an enum, a definition gives this paper's number and values for each of its cases, and the promises use that
-- definition". The number of a refusal,
abbrev pub number_of : Refusal → ℕ
number_of DeckTooShort = deck_too_short
number_of BytesAfterLines = bytes_after_lines
number_of LinesAbove256 = lines_above_256
number_of LabelNotBelowLines = label_not_below_lines
number_of OperationAbove27 = operation_above_27
number_of SecondByteNotAllowed = second_byte_not_allowed
number_of OperandNotAllowed = operand_not_allowed
number_of WordsAbove256 = words_above_256
number_of OutputTooShort = output_too_short
number_of WordAbove4095 = word_above_4095
number_of ImageAbove256Words = image_above_256_words
number_of NotSixteenCells = not_sixteen_cells
number_of RegisterOutOfRange = register_out_of_range
number_of FieldOutOfRange = field_out_of_range
number_of FetchNotNext = fetch_not_next

-- and the number and values of an answer. The number is 0 where nothing is refused. "A refusal returns its number; .. other result fields are 0":
-- a refused answer has no other result field that could be 0, and so no value.
pub record NumberAndValues (A : Type 0) : Type 0 where
  pub number : ℕ
  pub values : List A

abbrev pub number_and_values : {A : Type 0} → Result A Refusal → NumberAndValues A
number_and_values (Ok value) = record { number = accepted; values = value ∷ [] }
number_and_values (Err refusal) = record { number = number_of refusal; values = [] }

-- the number of an answer, where its value is said apart or there is none
abbrev pub refusal_number : {A : Type 0} → Result A Refusal → ℕ
refusal_number answer = (number_and_values answer).number

-- an answer with this number, and with this value if it is accepted
abbrev pub answered : {A : Type 0} → ℕ → A → NumberAndValues A
answered number value = record { number = number; values = cond (number == accepted) (value ∷ []) [] }

-- what `number` promises of its answer
abbrev pub NumberPromise : Refusal → ℕ → Type 0
NumberPromise refusal answer = answer ≡ number_of refusal

-- "`refused ` and the number in decimal": the bytes that a refusal prints as
abbrev pub printed : Refusal → List ℕ
printed refusal = 114 ∷ 101 ∷ 102 ∷ 117 ∷ 115 ∷ 101 ∷ 100 ∷ 32 ∷ decimal (number_of refusal)
