-- Document 01's "Deck": where each number of a deck stands. A byte past the end reads as 0; a deck that is too short is refused before that matters.
-- Assumes nothing.
use Rattle.std.specs.Prelude.{ℕ, ◌+◌, ◌*◌, List, slice_index}

abbrev pub byte_at : List ℕ → ℕ → ℕ
byte_at deck place = slice_index deck place

-- "two-byte numbers low byte first"
abbrev pub two_bytes_at : List ℕ → ℕ → ℕ
two_bytes_at deck place = byte_at deck place + 256 * byte_at deck (place + 1)

-- "Labels: one byte K, then K two-byte line numbers." K, and the line of a label
abbrev pub label_count : List ℕ → ℕ
label_count deck = byte_at deck 0

abbrev pub label_at : ℕ → ℕ
label_at label = 1 + 2 * label

abbrev pub label_line : List ℕ → ℕ → ℕ
label_line deck label = two_bytes_at deck (label_at label)

-- "Lines: two-byte L (0 to 256), then L records of three bytes". L stands where the labels end.
abbrev pub line_count_at : List ℕ → ℕ
line_count_at deck = label_at (label_count deck)

abbrev pub line_count : List ℕ → ℕ
line_count deck = two_bytes_at deck (line_count_at deck)

abbrev pub record_at : List ℕ → ℕ → ℕ
record_at deck line = line_count_at deck + 2 + 3 * line

-- "operation, second byte, operand" of a line
abbrev pub operation_byte : List ℕ → ℕ → ℕ
operation_byte deck line = byte_at deck (record_at deck line)

abbrev pub second_byte : List ℕ → ℕ → ℕ
second_byte deck line = byte_at deck (record_at deck line + 1)

abbrev pub operand_byte : List ℕ → ℕ → ℕ
operand_byte deck line = byte_at deck (record_at deck line + 2)
