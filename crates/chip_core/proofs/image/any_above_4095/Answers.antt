-- `chip_core::image::any_above_4095` meets its promise: one word more is `scanned`, and at the end the largest tells (`ended`).
-- Assumes nothing.
use Rattle.std.proofs.Common.{sym, refl, ◌∙◌, arith}
use Rattle.chip_core.proofs.Entries.{scanned, ended}
use Rattle.chip_core.proofs.image.any_above_4095.Goals as goal

pub loop-word-init : goal.loop-word-init
loop-word-init c = (omega arith, refl)

pub loop-word-preserved : goal.loop-word-preserved
loop-word-preserved c =
    let l = c.loop-word in
    (omega arith, rw c.max-largest.ensures (scanned c.args.image.now l.word-index l.largest c.loop-word-test.true ∙ l.invariant.1))

pub returns : goal.returns
returns c =
    let l = c.loop-word in
    sym (ended c.args.image.now l.word-index l.largest (omega arith)) ∙ l.invariant.1
