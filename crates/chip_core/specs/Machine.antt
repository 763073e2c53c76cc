-- A machine with its program memory and its cells, what every call over it refuses, and what a call leaves.
-- Assumes nothing.
use Rattle.std.specs.Prelude.{◌≡◌, ℕ, Bool, false, cond, not, ◌||◌, List, [], ◌∷◌, ◌++◌, length, ◌==◌, nat_lt, slice_index_or, Result}
use Rattle.chip_core.specs.Refusal.{accepted, word_above_4095, image_above_256_words, not_sixteen_cells, register_out_of_range, Check, check, number_and_values, refusal_number, answered}
use Rattle.chip_core.specs.Word.{program_address}
use Rattle.chip_core.specs.declared.address.ProgramAddress.{ProgramAddress}
use Rattle.chip_core.specs.declared.control.Stage.TheVariants.{Fetch}
use Rattle.chip_core.specs.declared.machine.Machine.{Machine}
use Rattle.chip_core.specs.declared.refusal.Refusal.{Refusal}

-- a machine and the data cells that it works on
pub record State : Type 0 where
  pub machine : Machine
  pub cells : List ℕ

abbrev pub state : Machine → List ℕ → State
state machine cells = record { machine = machine; cells = cells }

-- "A machine starts freshly loaded: PC, IR, DR, Acc and SR are 0 and FETCH is next. Data cells come from the caller".
abbrev pub freshly_loaded : Machine
freshly_loaded = record { pc = program_address 0; ir = 0; dr = 0; acc = 0; sr = 0; stage = Fetch }

-- what `fresh` promises of its answer
abbrev pub FreshPromise : Machine → Type 0
FreshPromise answer = answer ≡ freshly_loaded

-- what each address of the program memory reads as
abbrev pub Memory : Type 0
Memory = ProgramAddress → ℕ

-- "An image has 0 to 256 words; an entry past its end reads as 000."
unfoldable pub undrawn : ℕ
undrawn = 0x000

-- the program memory that an image makes
abbrev pub memory_of : List ℕ → Memory
memory_of image address = slice_index_or image address.0 undrawn

-- "word above 4095": some word of the image is, reached or not
abbrev pub any_above_4095 : List ℕ → Bool
any_above_4095 [] = false
any_above_4095 (word ∷ words) = nat_lt 4095 word || any_above_4095 words

-- "Instruction, clock and run: 11, 10, 12, 13". Of the image: its length and its words;
abbrev pub image_checks : List ℕ → List Check
image_checks image = check (nat_lt 256 (length image)) image_above_256_words ∷ check (any_above_4095 image) word_above_4095 ∷ []

-- of the cells: their count; of the record: "SR above 15 or IR above 4095".
abbrev pub state_checks : Machine → ℕ → List Check
state_checks machine count =
    check (not (count == 16)) not_sixteen_cells ∷
    check (nat_lt 15 machine.sr || nat_lt 4095 machine.ir) register_out_of_range ∷ []

abbrev pub machine_checks : Machine → List ℕ → ℕ → List Check
machine_checks machine image count = image_checks image ++ state_checks machine count

-- "A refusal returns its number; a register record handed in comes back the same, .. cells and output are unchanged."
abbrev pub leaves : ℕ → State → State → State
leaves number before after = cond (number == accepted) after before

-- What a call over a machine by value and its cells promises: its answer has the number, and where it is accepted the machine after the call; the cells are
-- those that are left. A machine that is refused is a copy: the caller's own record is the same.
abbrev pub Answers : ℕ → State → State → Result Machine Refusal → List ℕ → Type 0
Answers number before after answer cells =
    (number_and_values answer ≡ answered number after.machine) × (cells ≡ (leaves number before after).cells)

-- The same of a machine that is lent: the machine that is left in its place is the one after the call, or the one that was handed in.
abbrev pub AnswersInPlace : ℕ → State → State → Result Unit Refusal → Machine → List ℕ → Type 0
AnswersInPlace number before after answer machine cells =
    (refusal_number answer ≡ number) × (machine ≡ (leaves number before after).machine) × (cells ≡ (leaves number before after).cells)
