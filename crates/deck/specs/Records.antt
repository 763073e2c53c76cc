-- What the contracts of private functions cite of the records of lines.
-- Assumes nothing.
use Rattle.std.specs.Prelude.{ℕ, List}
use Rattle.chip_core.specs.Refusal.{first_broken, NumberAndValues, answered}
use Rattle.deck.specs.Bytes.{operation_byte, second_byte, operand_byte}
use Rattle.deck.specs.Deck.{record_checks, checks_of_line}
use Rattle.deck.specs.Operation.{row_of}
use Rattle.deck.specs.declared.bytes.Record.{Record}
use Rattle.deck.specs.declared.operation.Operation.{Operation}

-- the record of a line
abbrev pub record_of : List ℕ → ℕ → Record
record_of deck line = record { operation = operation_byte deck line; second = second_byte deck line; operand = operand_byte deck line }

-- a record that is read: the number of the first rule that it breaks, and what it is
abbrev pub record_read : List ℕ → Record → NumberAndValues Operation
record_read deck r =
    answered (first_broken (record_checks deck r.operation r.second r.operand)) ((row_of deck r.operation).means r.second r.operand)

-- the number of the first rule that a line breaks
unfoldable pub line_refusal : List ℕ → ℕ → ℕ
line_refusal deck line = first_broken (checks_of_line deck line)
