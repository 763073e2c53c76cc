-- Addresses, and the image that a program is translated to.
-- Assumes nothing.
use Rattle.std.specs.Prelude.{ℕ, zero, suc, ◌+◌, ◌%◌, List, [], ◌∷◌, ◌++◌, map}
use Rattle.chip_core.specs.Word.{program_address, word_of}
use Rattle.chip_core.specs.declared.address.ProgramAddress.{ProgramAddress}
use Rattle.chip_core.specs.declared.word.Instruction.{Instruction}
use Rattle.deck.specs.Operation.{Program, words}
use Rattle.deck.specs.declared.operation.Operation.{Operation}

-- "A line's address is the count of words before it."
unfoldable pub address : Program → ℕ → ℕ
address p zero = 0
address p (suc line) = address p line + words (p.line line)

-- "W is the total of words.": those before the position past the last line
abbrev pub total_words : Program → ℕ
total_words p = address p p.count

-- where the machine finds a position: "its address modulo 256 (the PC)"
abbrev pub pc_at : Program → ℕ → ProgramAddress
pc_at p position = program_address (address p position % 256)

-- What a line at address `here` becomes. 'Operation 26 at address p becomes "jump if f to (p+2) mod 256", then GOTO the label's address. NOP becomes 000'.
abbrev pub instructions_of : Program → ℕ → Operation → List Instruction
instructions_of p here (Operation.M d mode cell) = Instruction.M d mode cell ∷ []
instructions_of p here (Operation.I mode immediate) = Instruction.I mode immediate ∷ []
instructions_of p here (Operation.Goto line) = Instruction.Goto (program_address (address p line)) ∷ []
instructions_of p here (Operation.JumpIf f line) = Instruction.JumpIf f (program_address (address p line)) ∷ []
instructions_of p here (Operation.JumpUnless f line) =
    Instruction.JumpIf f (program_address ((here + 2) % 256)) ∷ Instruction.Goto (program_address (address p line)) ∷ []
instructions_of p here Operation.Nop = Instruction.S 0 ∷ []

abbrev pub line_words : Program → ℕ → List ℕ
line_words p line = map word_of (instructions_of p (address p line) (p.line line))

-- the words of the first lines, line after line
unfoldable pub image_up_to : Program → ℕ → List ℕ
image_up_to p zero = []
image_up_to p (suc line) = image_up_to p line ++ line_words p line

abbrev pub image : Program → List ℕ
image p = image_up_to p p.count
