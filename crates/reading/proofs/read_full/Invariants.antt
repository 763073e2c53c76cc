-- The bytes read stand at the start of the buffer, and the bytes that are left to read fall with each read.
use Rattle.std.proofs.Common.{length, take, ◌-◌, ◌≤◌}
use Rattle.std.specs.Io.KnownBytes.{Consumes}
use Rattle.reading.proofs.read_full.Given as goal

abbrev pub invariant-loop-count : goal.invariant-loop-count
invariant-loop-count g l =
    (l.count ≤ length l.buffer) × Consumes (g.R.Read.remaining l.fn.input) (g.R.Read.remaining l.input) (take l.count l.buffer)

abbrev pub decreases-loop-count : goal.decreases-loop-count
decreases-loop-count g l = length l.buffer - l.count
