-- `chip_core::word::bits` meets its promise: one less than 2 moved up by high - low is the mask of the field (`cut`), over every width.
-- Assumes nothing.
use Rattle.std.proofs.Common.{arith}
use Rattle.chip_core.proofs.Field.{cut}
use Rattle.chip_core.proofs.word.bits.Goals as goal

pub returns : goal.returns
returns c = cut 16 c.args.high c.args.low (omega (arith, c.requires)) (omega (arith, c.requires)) c.args.word
