-- After each turn the run stands where so many lines by the rules stand, with their count and cost.
use Rattle.std.proofs.Common.{◌≡◌, ℕ, ◌*◌, ◌<◌, ◌≤◌, List}
use Rattle.deck.specs.Bytes.{line_count}
use Rattle.deck.specs.Lines.{line_state, after_lines, lines_of, clocks_of, at_start}
use Rattle.deck.specs.Operation.{program}
use Rattle.deck.specs.Private.{seen}
use Rattle.deck.specs.declared.lines.Registers.{Registers}
use Rattle.deck.proofs.lines.run_accepted.Given as goal

-- where the loop stands, after so many lines
pub record Standing (deck start : List ℕ) (position : ℕ) (registers : Registers) (cells : List ℕ) (lines clocks : ℕ) : Type 0 where
  pub bound : clocks ≤ 6 * lines
  pub flags : registers.flags < 16
  pub at : line_state position (seen registers cells) ≡ after_lines (program deck) lines (at_start start)
  pub counted : lines ≡ lines_of (program deck) lines (at_start start)
  pub cost : clocks ≡ clocks_of (program deck) lines (at_start start)
  pub inside : position ≤ line_count deck

abbrev pub invariant-loop-lines : goal.invariant-loop-lines
invariant-loop-lines l = Standing l.deck.bytes.now l.fn.cells l.position l.registers l.cells l.lines l.clocks
