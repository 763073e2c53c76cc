-- Of the words passed only the largest counts, and those ahead are still to be seen.
use Rattle.std.proofs.Common.{◌≡◌, ◌-◌, ◌≤◌, ◌||◌, ltb, length, drop}
use Rattle.chip_core.specs.Machine.{any_above_4095}
use Rattle.chip_core.proofs.image.any_above_4095.Given as goal

abbrev pub invariant-loop-word : goal.invariant-loop-word
invariant-loop-word l = (l.word-index ≤ length l.image) × ((ltb 4095 l.largest || any_above_4095 (drop l.word-index l.image)) ≡ any_above_4095 l.image)

abbrev pub decreases-loop-word : goal.decreases-loop-word
decreases-loop-word l = length l.image - l.word-index
