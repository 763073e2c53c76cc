-- `deck::lines::run_accepted` meets its promise: after each turn it stands where so many lines by the rules stand, with their count and cost. A run that
-- has passed the last line has done what all the lines asked for do, since the rest change nothing.
-- Assumes nothing.
use Rattle.std.proofs.Common.{◌≡◌, ℕ, ◌+◌, ◌*◌, ◌<◌, ◌≤◌, List, sym, ap, ◌∙◌, arith}
use Rattle.chip_core.specs.Rule.{Visible}
use Rattle.deck.specs.Bytes.{line_count}
use Rattle.deck.specs.Lines.{line_state, line_effect, line_next, executed, at_start}
use Rattle.deck.specs.Operation.{operation_at, program}
use Rattle.deck.specs.Private.{seen, Reaches}
use Rattle.deck.specs.declared.lines.Registers.{Registers}
use Rattle.deck.proofs.Runs.{goes_on, one_line_more, clocks_more, stopped, stopped_lines, stopped_clocks, executed_le, lands_next, line_flags}
use Rattle.deck.proofs.Sound.{Sound, sound, line_lands}
use Rattle.deck.proofs.lines.run_accepted.Goals as goal
use Rattle.deck.proofs.lines.run_accepted.Invariants.{Standing}

module _ (deck start : List ℕ) (position : ℕ) (registers : Registers) (cells : List ℕ) (lines clocks : ℕ)
    (s : Standing deck start position registers cells lines clocks) where
  -- one line more
  onward : Sound deck → position < line_count deck → (after : Registers) (left : List ℕ) (next cost : ℕ)
      → seen after left ≡ line_effect (operation_at deck position) (seen registers cells)
      → next ≡ line_next (operation_at deck position) position registers.flags → cost ≡ 3 * executed (operation_at deck position) registers.flags
      → Standing deck start next after left (lines + 1) (clocks + cost)
  onward d h after left next cost seen' next' cost' =
      let o = operation_at deck position in
      let before = line_state position (seen registers cells) in
      let at-start = at_start start in
      record {
        bound = omega (arith, s.bound, cost', executed_le o registers.flags);
        flags = rw (ap (λ (v : Visible). v.sr) seen') (line_flags o (seen registers cells) s.flags);
        at = rw (next', seen') (goes_on (program deck) at-start lines before s.at h);
        counted = one_line_more (program deck) at-start lines before s.at h lines s.counted;
        cost = rw cost' (clocks_more (program deck) at-start lines before s.at h clocks s.cost);
        inside = rw next' (lands_next o (line_count deck) position registers.flags (line_lands deck d position h) h);
      }

  -- or there are no more
  no_more : line_count deck ≤ position → (asked : ℕ) → lines ≤ asked
      → Reaches asked deck start (record { position = position; registers = registers; lines = lines; clocks = clocks }) cells
  no_more h asked most =
      let before = line_state position (seen registers cells) in (
        stopped (program deck) (at_start start) lines before s.at h asked most,
        s.counted ∙ stopped_lines (program deck) (at_start start) lines before s.at h asked most,
        s.cost ∙ stopped_clocks (program deck) (at_start start) lines before s.at h asked most,
        s.inside,
      )

pub returns-then-count-position : goal.returns-then-count-position
returns-then-count-position c =
    let l = c.loop-lines in
    no_more c.args.deck.bytes.now c.args.cells.now l.position l.registers l.cells l.lines l.clocks l.invariant
    (omega (arith, c.line_count-count.ensures, c.if-count-position.true)) c.args.asked (omega arith)

pub loop-lines-preserved : goal.loop-lines-preserved
loop-lines-preserved c =
    let l = c.loop-lines in
    let deck = c.args.deck.bytes.now in
    let h : l.position < line_count deck = omega (arith, c.line_count-count.ensures, c.if-count-position.false) in
    let is = c.operation_at-operation.ensures in
    onward deck c.args.cells.now l.position l.registers l.cells l.lines l.clocks l.invariant
    (sound deck c.args.deck.accepted) h c.apply-registers.result _ c.next-position.result c.cost-clocks.result
    (rw (sym is) c.apply-registers.ensures) (rw (sym is) c.next-position.ensures) (rw (sym is) c.cost-clocks.ensures)
