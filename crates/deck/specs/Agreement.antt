-- Demand 3: any accepted deck, run by the line rules, agrees with its translated image, clocked on the machine: Acc, flags, cells, PC, clocks. First of the
-- rules and the clocks (`Demand3`), then of what the functions return (`FunctionsAgree`, `OneCellALine`).
-- Assumes nothing.
use Rattle.std.specs.Prelude.{◌≡◌, ℕ, ◌+◌, ◌*◌, ◌<◌, ◌≤◌, List, length, take, Result, Ok}
use Rattle.chip_core.specs.Clock.{clock, RunPromise}
use Rattle.chip_core.specs.Instruction.{visible}
use Rattle.chip_core.specs.Iterate.{iterate}
use Rattle.chip_core.specs.Machine.{State, state, freshly_loaded, FreshPromise, memory_of}
use Rattle.chip_core.specs.Refusal.{accepted}
use Rattle.chip_core.specs.Rule.{OneCell}
use Rattle.chip_core.specs.declared.control.Stage.TheVariants.{Fetch}
use Rattle.chip_core.specs.declared.machine.Machine.{Machine}
use Rattle.chip_core.specs.declared.refusal.Refusal.{Refusal}
use Rattle.deck.specs.Deck.{deck_refusal}
use Rattle.deck.specs.Image.{image, pc_at}
use Rattle.deck.specs.Lines.{LineState, after_lines, clocks_of, LinesPromise, at_start, words_executed}
use Rattle.deck.specs.Operation.{Program, program}
use Rattle.deck.specs.Translate.{TranslatePromise}
use Rattle.deck.specs.declared.lines.LinesRun.{LinesRun}

-- A machine that stands where a run of lines stands:
pub record Agree (p : Program) (lines : LineState) (s : State) : Type 0 where
  -- Acc, flags and all cells are the same,
  pub sees : visible s ≡ lines.sees
  -- PC is the next line's address modulo 256,
  pub pc : s.machine.pc ≡ pc_at p lines.position
  -- which is a line or the position past the last,
  pub inside : lines.position ≤ p.count
  -- and the machine is about to fetch.
  pub fetches : s.machine.stage ≡ Fetch

-- so many clocks of a machine with the program's image
abbrev pub after_clocks : Program → ℕ → State → State
after_clocks p clocks s = iterate (clock (memory_of (image p))) clocks s

-- After n lines, or fewer if the run passes the last line, and three clocks for each word that those lines execute: the machine stands where the run of lines
-- stands, the clocks that the lines cost are that sum, and no line has changed more than one cell.
pub record AgreeAfter (p : Program) (n : ℕ) (lines : LineState) (s : State) : Type 0 where
  pub agree : Agree p (after_lines p n lines) (after_clocks p (3 * words_executed p n lines) s)
  pub clocks : clocks_of p n lines ≡ 3 * words_executed p n lines
  pub one_cell : (k : ℕ) → k < n → OneCell (after_lines p k lines).sees.cells (after_lines p (k + 1) lines).sees.cells

-- from any line boundary, with any Acc, flags, cells, IR and DR
abbrev pub AgreesFromAnyLine : Program → Type 0
AgreesFromAnyLine p = (n : ℕ) (lines : LineState) (s : State) → Agree p lines s → AgreeAfter p n lines s

-- from a fresh load, with any cells
abbrev pub AgreesFromLoad : Program → Type 0
AgreesFromLoad p = (n : ℕ) (cells : List ℕ) → AgreeAfter p n (at_start cells) (state freshly_loaded cells)

-- OF ANY ACCEPTED DECK
abbrev pub Demand3 : Type 0
Demand3 = (deck : List ℕ) → deck_refusal deck ≡ accepted → AgreesFromAnyLine (program deck) × AgreesFromLoad (program deck)

-- what the line runner came to and left in its cells, and what `run` returned and left in its own
pub record Same (ran : LinesRun) (cells : List ℕ) (clocked : Result Machine Refusal) (others : List ℕ) : Type 0 where
  pub machine : Machine
  pub accepts : clocked ≡ Ok machine
  pub acc : machine.acc ≡ ran.acc
  pub flags : machine.sr ≡ ran.flags
  pub pc : machine.pc ≡ ran.pc
  pub fetches : machine.stage ≡ Fetch
  pub all_cells : others ≡ cells

-- The line runner's answer is accepted, and it reports so many clocks. Whatever `run` then returns and leaves, asked for those clocks of a machine with these words
-- and with the cells that the line runner began with, is the same.
pub record RunsAgree (answer : Result LinesRun Refusal) (cells : List ℕ) (clocks : ℕ) (machine : Machine) (words start : List ℕ) : Type 0 where
  pub ran : LinesRun
  pub accepts : answer ≡ Ok ran
  pub reports : ran.clocks ≡ clocks
  pub same : (clocked : Result Machine Refusal) (others : List ℕ) → RunPromise ran.clocks machine words start clocked others → Same ran cells clocked others

-- OF THE FUNCTIONS, by their promises alone. `translate` accepts a deck and leaves its words at the start of an output; `run_lines` runs so many of its lines on
-- sixteen cells; `run` clocks those words on the machine of `fresh` and the same sixteen cells for the clocks that `run_lines` reports. Those are three for each
-- word that the lines execute.
abbrev pub FunctionsAgree : Type 0
FunctionsAgree =
    (deck output start : List ℕ) (asked : ℕ) → length start ≡ 16
    → (translated : Result ℕ Refusal) (output' : List ℕ) → TranslatePromise deck output translated output' → (words : ℕ) → translated ≡ Ok words
    → (answer : Result LinesRun Refusal) (cells : List ℕ) → LinesPromise asked deck start answer cells
    → (machine : Machine) → FreshPromise machine
    → RunsAgree answer cells (3 * words_executed (program deck) asked (at_start start)) machine (take words output') start

-- One line more asked of `run_lines` changes one cell more at most.
abbrev pub OneCellALine : Type 0
OneCellALine =
    (deck start : List ℕ) (asked : ℕ) (ran longer : Result LinesRun Refusal) (before after : List ℕ)
    → LinesPromise asked deck start ran before → LinesPromise (asked + 1) deck start longer after → OneCell before after
