-- Document 01's "Words": a word is 0 to 4095, and each field is cut from it by position.
-- Assumes nothing.
use Rattle.std.specs.Prelude.{◌≡◌, ℕ, ◌+◌, ◌-◌, ◌*◌, ◌/◌, ◌%◌, ◌^◌, Bool, cond, not, ◌&&◌, [], ◌∷◌, ◌==◌, nat_lt, Result}
use Rattle.chip_core.specs.Refusal.{word_above_4095, field_out_of_range, check, first_broken, NumberAndValues, number_and_values, answered}
use Rattle.chip_core.specs.declared.address.ProgramAddress.{ProgramAddress}
use Rattle.chip_core.specs.declared.address.DataAddress.{DataAddress}
use Rattle.chip_core.specs.declared.word.Instruction.{Instruction}
use Rattle.chip_core.specs.declared.word.Instruction.TheVariants.{S, Goto, M, JumpIf, I}
use Rattle.chip_core.specs.declared.refusal.Refusal.{Refusal}

-- "A program address counts up to 256 entries, a data address up to 16 cells, and one is never taken for the other."
abbrev pub program_address : ℕ → ProgramAddress
program_address n = record { 0 = n }

abbrev pub data_address : ℕ → DataAddress
data_address n = record { 0 = n }

-- "Bits are numbered from 0 at the low end. Each field is cut from the word by position": bits high..low of a word.
abbrev pub bits : ℕ → ℕ → ℕ → ℕ
bits high low word = word / 2 ^ low % 2 ^ (high + 1 - low)

-- bit k of a word or a byte, and flag k of SR or of a mask of flags
abbrev pub is_set : ℕ → ℕ → Bool
is_set k number = number / 2 ^ k % 2 == 1

-- The table of words, in its order. The pattern of bits 11..8 picks the kind, and 1mmm is what the others leave:
--     0000  S                k = bits 7..0
--     0001  GOTO             target = bits 7..0
--     001d  M                d, mode = bits 7..4, cell = bits 3..0
--     01ff  jump if flag f   f = bits 9..8, target = bits 7..0
--     1mmm  I                mode = bits 10..8, immediate = bits 7..0
unfoldable pub instruction_at : ℕ → Instruction
instruction_at word =
    cond (bits 11 8 word == 0b0000) (S (bits 7 0 word))
    (cond (bits 11 8 word == 0b0001) (Goto (program_address (bits 7 0 word)))
    (cond (bits 11 9 word == 0b001) (M (bits 8 8 word) (bits 7 4 word) (data_address (bits 3 0 word)))
    (cond (bits 11 10 word == 0b01) (JumpIf (bits 9 8 word) (program_address (bits 7 0 word)))
    (I (bits 10 8 word) (bits 7 0 word)))))

-- "Flag f is a bit of SR: 0 = O (JO), 1 = S (JS), 2 = C (JC), 3 = Z (JZ)." 003's "function" column has them in reverse, and does not decide.
abbrev pub flag_o : ℕ
flag_o = 0

abbrev pub flag_s : ℕ
flag_s = 1

abbrev pub flag_c : ℕ
flag_c = 2

abbrev pub flag_z : ℕ
flag_z = 3

-- whether flag f of SR is 1
unfoldable pub flag : ℕ → ℕ → Bool
flag f sr = is_set f sr

-- what `is_flag_set` promises of its answer
abbrev pub FlagPromise : ℕ → ℕ → Bool → Type 0
FlagPromise f sr answer = answer ≡ flag f sr

-- The table of words from its right side to its left: the word in which an instruction's fields stand by position.
unfoldable pub word_of : Instruction → ℕ
word_of (S k) = 0b0000 * 2 ^ 8 + k
word_of (Goto target) = 0b0001 * 2 ^ 8 + target.0
word_of (M d mode cell) = (0b001 * 2 ^ 1 + d) * 2 ^ 8 + (mode * 2 ^ 4 + cell.0)
word_of (JumpIf f target) = (0b01 * 2 ^ 2 + f) * 2 ^ 8 + target.0
word_of (I mode immediate) = (0b1 * 2 ^ 3 + mode) * 2 ^ 8 + immediate

-- a field of so many bits
abbrev pub fits : ℕ → ℕ → Bool
fits width field = nat_lt field (2 ^ width)

-- Each field within the bits that the table gives it: "All 32 pairs of M mode and d are accepted".
unfoldable pub in_range : Instruction → Bool
in_range (S k) = fits 8 k
in_range (Goto target) = fits 8 target.0
in_range (M d mode cell) = fits 1 d && fits 4 mode && fits 4 cell.0
in_range (JumpIf f target) = fits 2 f && fits 8 target.0
in_range (I mode immediate) = fits 3 mode && fits 8 immediate

-- "Decoder 10"
abbrev pub decode_refusal : ℕ → ℕ
decode_refusal word = first_broken (check (nat_lt 4095 word) word_above_4095 ∷ [])

-- the decoder's answer
unfoldable pub decoded : ℕ → NumberAndValues Instruction
decoded word = answered (decode_refusal word) (instruction_at word)

-- what `decode` promises of its answer
abbrev pub DecodePromise : ℕ → Result Instruction Refusal → Type 0
DecodePromise word answer = number_and_values answer ≡ decoded word

-- "encoder 14"
abbrev pub encode_refusal : Instruction → ℕ
encode_refusal instruction = first_broken (check (not (in_range instruction)) field_out_of_range ∷ [])

-- the encoder's answer
unfoldable pub encoded : Instruction → NumberAndValues ℕ
encoded instruction = answered (encode_refusal instruction) (word_of instruction)

-- what `encode` promises of its answer
abbrev pub EncodePromise : Instruction → Result ℕ Refusal → Type 0
EncodePromise instruction answer = number_and_values answer ≡ encoded instruction
