-- `chip_core::clock::clocked` meets its promise: one clock more is the last one (`iterate_last`), and no clock breaks what the next goes by (`stays_fit`).
-- Assumes nothing.
use Rattle.std.proofs.Common.{◌∙◌, add-one, arith}
use Rattle.chip_core.specs.Machine.{memory_of}
use Rattle.chip_core.proofs.Iteration.{iterate_last}
use Rattle.chip_core.proofs.Running.{stays_fit}
use Rattle.chip_core.proofs.clock.clocked.Goals as goal

pub loop-preserved : goal.loop-preserved
loop-preserved c =
    let l = c.loop in
    let e = c.one_clock-at.ensures in
    (omega (arith, c.loop-test.true), rw e (stays_fit (memory_of c.args.image.now) _ l.invariant.1), e ∙ rw (add-one, iterate_last, l.invariant.2))
