-- Document 01's table of operations, and the program that a deck holds: its lines, with every label looked up.
-- Assumes nothing.
use Rattle.std.specs.Prelude.{ℕ, ◌-◌, cond, List, [], ◌∷◌, ◌==◌, nat_lt, Option, Some, None}
use Rattle.chip_core.specs.Refusal.{accepted, operand_not_allowed, NumberAndValues}
use Rattle.chip_core.specs.Word.{data_address}
use Rattle.deck.specs.Bytes.{label_count, label_line, line_count, operation_byte, second_byte, operand_byte}
use Rattle.deck.specs.declared.operation.Operation.{Operation}
use Rattle.deck.specs.declared.operation.Operation.TheVariants.{M, I, Goto, JumpIf, JumpUnless, Nop}

-- A row of the table: second bytes below the first number are allowed, operands below the second, and what such a line is.
pub record Row : Type 0 where
  pub seconds : ℕ
  pub operands : ℕ
  pub means : ℕ → ℕ → Operation

abbrev row : ℕ → ℕ → (ℕ → ℕ → Operation) → Row
row seconds operands means = record { seconds = seconds; operands = operands; means = means }

-- The table of operations, a row a line. An operand that is a label is below K, and the label's line stands in its place. What stands at the end for an
-- operation above 27 goes nowhere, since 5 is tried first.
unfoldable pub row_of : List ℕ → ℕ → Row
row_of deck operation =
    -- row: second byte, operand, what the line is
    cond (nat_lt operation 16) (row 2 16 (λ d cell. M d operation (data_address cell)))  -- 0..15: M mode
    (cond (nat_lt operation 24) (row 1 256 (λ _ immediate. I (operation - 16) immediate))  -- 16..23: I mode 0..7
    (cond (operation == 24) (row 1 (label_count deck) (λ _ label. Goto (label_line deck label)))  -- 24: GOTO
    (cond (operation == 25) (row 4 (label_count deck) (λ f label. JumpIf f (label_line deck label)))  -- 25: jump if flag
    (cond (operation == 26) (row 4 (label_count deck) (λ f label. JumpUnless f (label_line deck label)))  -- 26: jump unless flag
    (row 1 1 (λ _ _. Nop))))))  -- 27: NOP

-- a line of the deck, with its label looked up
unfoldable pub operation_at : List ℕ → ℕ → Operation
operation_at deck line = (row_of deck (operation_byte deck line)).means (second_byte deck line) (operand_byte deck line)

-- the "words" column
abbrev pub words : Operation → ℕ
words (M d mode cell) = 1
words (I mode immediate) = 1
words (Goto line) = 1
words (JumpIf f line) = 1
words (JumpUnless f line) = 2
words Nop = 1

-- the lines of a deck: how many, and each of them
pub record Program : Type 0 where
  pub count : ℕ
  pub line : ℕ → Operation

abbrev pub program : List ℕ → Program
program deck = record { count = line_count deck; line = operation_at deck }

-- "the label is looked up first, and a missing one ends the translation with 7": the number and the values of each case of a lookup
abbrev pub label_number_and_values : Option ℕ → NumberAndValues ℕ
label_number_and_values (Some line) = record { number = accepted; values = line ∷ [] }
label_number_and_values None = record { number = operand_not_allowed; values = [] }

-- "label not below K" is missing
unfoldable pub looked_up : List ℕ → ℕ → NumberAndValues ℕ
looked_up deck label =
    cond (nat_lt label (label_count deck))
    (record { number = accepted; values = label_line deck label ∷ [] })
    (record { number = operand_not_allowed; values = [] })
