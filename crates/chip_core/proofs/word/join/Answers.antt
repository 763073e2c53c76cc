-- `chip_core::word::join` meets its promise: fields that do not overlap are joined by `|` as by `+` (`joined`), over every width.
-- Assumes nothing.
use Rattle.std.proofs.Common.{◌-◌, arith}
use Rattle.chip_core.proofs.Field.{joined}
use Rattle.chip_core.proofs.word.join.Goals as goal

pub returns : goal.returns
returns c = joined (16 - c.args.width) c.args.width 16 (omega (arith, c.requires.0)) c.requires.1 c.requires.2
