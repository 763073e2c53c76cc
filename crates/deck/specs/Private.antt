-- What the contracts of private functions cite and no public promise does: who reads the promises may pass this file over.
-- Assumes nothing.
use Rattle.std.specs.Prelude.{◌≡◌, ℕ, ◌+◌, ◌<◌, ◌≤◌, List, ◌++◌, length, take, drop, slice_index_or}
use Rattle.chip_core.specs.Rule.{Visible}
use Rattle.chip_core.specs.declared.word.Instruction.{Instruction}
use Rattle.deck.specs.Bytes.{line_count}
use Rattle.deck.specs.Image.{instructions_of}
use Rattle.deck.specs.Lines.{line_state, after_lines, at_start, lines_of, clocks_of}
use Rattle.deck.specs.Operation.{Program, program}
use Rattle.deck.specs.declared.lines.Reached.{Reached}
use Rattle.deck.specs.declared.lines.Registers.{Registers}
use Rattle.deck.specs.declared.operation.Operation.{Operation}
use Rattle.deck.specs.declared.operation.Operation.TheVariants.{M, I, Goto, JumpIf, JumpUnless, Nop}

-- what the table allows a line to be: each field is within the bits that its words have for it,
abbrev pub Fits : Operation → Type 0
Fits (M d mode cell) = (d < 2) × (mode < 16) × (cell.0 < 16)
Fits (I mode immediate) = (mode < 8) × (immediate < 256)
Fits (Goto line) = Unit {0}
Fits (JumpIf f line) = f < 4
Fits (JumpUnless f line) = f < 4
Fits Nop = Unit {0}

-- and a jump to one of so many lines
abbrev pub Lands : ℕ → Operation → Type 0
Lands lines (M d mode cell) = Unit {0}
Lands lines (I mode immediate) = Unit {0}
Lands lines (Goto line) = line < lines
Lands lines (JumpIf f line) = line < lines
Lands lines (JumpUnless f line) = line < lines
Lands lines Nop = Unit {0}

-- the first instruction of a line
abbrev pub first_of : Program → ℕ → Operation → Instruction
first_of p here operation = slice_index_or (instructions_of p here operation) 0 (Instruction.S 0)

-- the output with these items from a place on
abbrev pub overwritten : ℕ → List ℕ → List ℕ → List ℕ
overwritten place items output = take place output ++ items ++ drop (place + length items) output

-- what the code's registers and the cells are to the rules
abbrev pub seen : Registers → List ℕ → Visible
seen registers cells = record { acc = registers.acc; sr = registers.flags; cells = cells }

-- what a run that is not refused reaches and counts
abbrev pub Reaches : ℕ → List ℕ → List ℕ → Reached → List ℕ → Type 0
Reaches asked deck cells r cells' =
    (line_state r.position (seen r.registers cells') ≡ after_lines (program deck) asked (at_start cells))
    × (r.lines ≡ lines_of (program deck) asked (at_start cells))
    × (r.clocks ≡ clocks_of (program deck) asked (at_start cells))
    × (r.position ≤ line_count deck)
