-- One instruction, by the rules of the instructions and not by clocks.
-- Assumes nothing.
use Rattle.std.specs.Prelude.{◌≡◌, ℕ, Bool, true, false, not, List, [], ◌∷◌, ◌++◌, length, Result}
use Rattle.chip_core.specs.Machine.{State, state, Memory, memory_of, machine_checks, Answers}
use Rattle.chip_core.specs.Refusal.{fetch_not_next, check, first_broken}
use Rattle.chip_core.specs.Rule.{Act, Pass, Go, OnCell, GoIf, OnImmediate, act_of, Visible, cell_at, effect, next}
use Rattle.chip_core.specs.Word.{instruction_at}
use Rattle.chip_core.specs.declared.control.Stage.{Stage}
use Rattle.chip_core.specs.declared.control.Stage.TheVariants.{Fetch, Decode, Execute}
use Rattle.chip_core.specs.declared.machine.Machine.{Machine}
use Rattle.chip_core.specs.declared.refusal.Refusal.{Refusal}

-- what a program sees of a machine
abbrev pub visible : State → Visible
visible s = record { acc = s.machine.acc; sr = s.machine.sr; cells = s.cells }

-- DR is loaded by M alone, and else keeps its value
abbrev pub loaded : Act → ℕ → List ℕ → ℕ
loaded Pass dr cells = dr
loaded (Go target) dr cells = dr
loaded (OnCell d mode cell) dr cells = cell_at cell cells
loaded (GoIf f target) dr cells = dr
loaded (OnImmediate mode immediate) dr cells = dr

-- an act carried out, with its word in IR, and FETCH next again
abbrev pub carried_out : Act → ℕ → State → State
carried_out act word s =
    record {
      machine = record {
        pc = next act s.machine;
        ir = word;
        dr = loaded act s.machine.dr s.cells;
        acc = (effect act (visible s)).acc;
        sr = (effect act (visible s)).sr;
        stage = Fetch;
      };
      cells = (effect act (visible s)).cells;
    }

-- One instruction: the word at PC says what is done. "One instruction is three clocks of a machine about to fetch" is the theorem `three`.
unfoldable pub instruction : Memory → State → State
instruction memory s = carried_out (act_of (instruction_at (memory s.machine.pc))) (memory s.machine.pc) s

-- What the layers above take from the core: what running one instruction does to what is seen of a machine, to PC and to the stage.
pub record Ran (act : Act) (before after : State) : Type 0 where
  pub sees : visible after ≡ effect act (visible before)
  pub to : after.machine.pc ≡ next act before.machine
  pub ends : after.machine.stage ≡ Fetch

abbrev pub is_fetch : Stage → Bool
is_fetch Fetch = true
is_fetch Decode = false
is_fetch Execute = false

-- "and for the instruction 33 last"
unfoldable pub instruction_refusal : Machine → List ℕ → ℕ → ℕ
instruction_refusal machine image count =
    first_broken (machine_checks machine image count ++ check (not (is_fetch machine.stage)) fetch_not_next ∷ [])

-- what `instruction` promises of its answer and of the cells that it leaves
abbrev pub InstructionPromise : Machine → List ℕ → List ℕ → Result Machine Refusal → List ℕ → Type 0
InstructionPromise machine image cells =
    Answers (instruction_refusal machine image (length cells)) (state machine cells)
    (instruction (memory_of image) (state machine cells))
