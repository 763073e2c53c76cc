-- The definitions of a clock and of an instruction, computed: 003's four test programs and document 01's example image, from a fresh load.
-- Assumes nothing.
use Rattle.std.proofs.Common.{◌≡◌, ℕ, ◌*◌, List, [], ◌∷◌, ◌++◌, replicate, refl}
use Rattle.chip_core.specs.Clock.{pc_after, ir_after, dr_after, operand, result_out, flags_out, acc_after, sr_after, cells_after, clock}
use Rattle.chip_core.specs.Control.{control_row}
use Rattle.chip_core.specs.Instruction.{instruction}
use Rattle.chip_core.specs.Iterate.{iterate}
use Rattle.chip_core.specs.Machine.{State, state, freshly_loaded, memory_of}
use Rattle.chip_core.specs.Rule.{effect, stepped, next}
use Rattle.chip_core.specs.Unit.{table, unit_result, unit_flags}
use Rattle.chip_core.specs.Word.{program_address, instruction_at, flag}

-- PC, Acc, SR and the cells
pub record Seen : Type 0 where
  pub pc : ℕ
  pub acc : ℕ
  pub sr : ℕ
  pub cells : List ℕ

abbrev seen : State → Seen
seen s = record { pc = s.machine.pc.0; acc = s.machine.acc; sr = s.machine.sr; cells = s.cells }

abbrev fresh_load : State
fresh_load = state freshly_loaded (replicate 16 0)

-- after so many instructions' clocks, and after so many instructions
abbrev clocked : ℕ → List ℕ → Seen
clocked n image = seen (iterate (clock (memory_of image)) (3 * n) fresh_load)

abbrev instructed : ℕ → List ℕ → Seen
instructed n image = seen (iterate (instruction (memory_of image)) n fresh_load)

-- both ways the same is seen
abbrev Ends : ℕ → List ℕ → ℕ → ℕ → ℕ → List ℕ → Type 0
Ends n image pc acc sr cells =
    (clocked n image ≡ record { pc = pc; acc = acc; sr = sr; cells = cells })
    × (instructed n image ≡ record { pc = pc; acc = acc; sr = sr; cells = cells })

-- the cells that a program wrote, and 0 in the others
abbrev first : List ℕ → List ℕ
first cells = cells ++ replicate 13 0

abbrev test_1 : List ℕ
test_1 = 0x000 ∷ 0xB01 ∷ 0x220 ∷ 0xB00 ∷ 0x330 ∷ 0x105 ∷ []

abbrev test_2 : List ℕ
test_2 = 0x000 ∷ 0xB01 ∷ 0x220 ∷ 0x300 ∷ 0x200 ∷ 0x310 ∷ 0x210 ∷ 0x370 ∷ 0x270 ∷ 0x109 ∷ []

abbrev test_3 : List ℕ
test_3 = 0x000 ∷ 0xB05 ∷ 0x220 ∷ 0x221 ∷ 0x222 ∷ 0xB03 ∷ 0x240 ∷ 0x251 ∷ 0x262 ∷ 0x109 ∷ []

abbrev test_4 : List ℕ
test_4 = 0x000 ∷ 0xB01 ∷ 0xA00 ∷ 0x807 ∷ 0x906 ∷ 0xF07 ∷ 0xC03 ∷ 0xD05 ∷ 0xE03 ∷ 0x109 ∷ []

abbrev example : List ℕ
example = 0xB03 ∷ 0x901 ∷ 0x704 ∷ 0x101 ∷ []

-- Acc, the cells and PC, which stays at the last GOTO, are those of 003's "meaning" column, and the flags those that follow from it. The example is document
-- 01's: "after 7 lines and 27 clocks with Acc 0, flags 8, PC 4".
pub tests : Ends 6 test_1 5 1 0 (first (1 ∷ 0 ∷ 0 ∷ []))
    × Ends 10 test_2 9 0xFD 6 (first (0xFF ∷ 0 ∷ 0 ∷ []))
    × Ends 10 test_3 9 3 0 (first (1 ∷ 7 ∷ 6 ∷ []))
    × Ends 10 test_4 9 6 0 (first (0 ∷ 0 ∷ 0 ∷ []))
    × Ends 9 example 4 0 8 (first (0 ∷ 0 ∷ 0 ∷ []))
unfolding clock instruction control_row
    pc_after ir_after dr_after operand result_out flags_out acc_after sr_after cells_after effect next instruction_at flag table unit_result unit_flags
tests = ((refl, refl), (refl, refl), (refl, refl), (refl, refl), (refl, refl))

-- "PC steps by one, and 255 steps to 0"
pub wraps : stepped (program_address 255) ≡ program_address 0
wraps = refl
