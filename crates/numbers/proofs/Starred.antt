-- The starred rows of document 01's "Numbers to meet", one table under one statement: each is the answer that the function's promise
-- asks for, since the definitions compute to it.
-- Assumes nothing.
use Rattle.std.proofs.Common.{ℕ, List, [], ◌∷◌, refl, Ok}
use Rattle.chip_core.specs.Unit.{computed, computed_as, table, unit_result, unit_flags, UnitPromise}
use Rattle.chip_core.specs.Word.{decoded, instruction_at, program_address, flag_o, flag_z, DecodePromise}
use Rattle.chip_core.specs.declared.word.Instruction.TheVariants.{JumpIf}
use Rattle.chip_core.proofs.Finite.{All, ◌&◌}

pub data Row : Type 0 where
  -- mode; a, b, flags before; result, flags
  unit : (mode a b before result after : ℕ) → Row
  -- a word, and the flag and the target of the jump that it is
  jump : (word f target : ℕ) → Row

abbrev pub Met : Row → Type 0
Met (unit mode a b before result after) = UnitPromise mode a b before (Ok (computed_as result after))
Met (jump word f target) = DecodePromise word (Ok (JumpIf f (program_address target)))

abbrev pub starred : List Row
starred =
    unit 0x0 0x80 0x80 0x0 0x00 0xD ∷
    unit 0x1 0x02 0x03 0x0 0xFF 0x6 ∷
    unit 0x7 0xFF 0xFC 0x0 0xFD 0x6 ∷
    unit 0x8 0x00 0x7F 0x0 0x80 0x3 ∷
    unit 0x9 0x00 0x00 0x0 0xFF 0x6 ∷
    unit 0xA 0x01 0x80 0x5 0x01 0x5 ∷
    unit 0xC 0x09 0x81 0x3 0x02 0x7 ∷
    unit 0xD 0x03 0x04 0x0 0x00 0xC ∷
    unit 0xE 0x01 0x81 0x0 0xC0 0x6 ∷
    unit 0xE 0x00 0x80 0xD 0x80 0xF ∷
    unit 0xF 0x00 0x80 0x0 0x80 0x7 ∷
    unit 0xF 0x00 0x00 0x0 0x00 0x8 ∷
    jump 0x704 flag_z 4 ∷
    jump 0x404 flag_o 4 ∷ []

pub all_met : All Met starred
unfolding decoded instruction_at computed unit_result unit_flags table
all_met = refl & refl & refl & refl & refl & refl & refl & refl & refl & refl & refl & refl & refl & refl & tt
