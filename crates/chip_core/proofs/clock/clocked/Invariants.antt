-- So many clocks are made, and what the next one goes by is not broken (`Fit`).
use Rattle.std.proofs.Common.{◌≡◌, ◌≤◌}
use Rattle.chip_core.specs.Clock.{clock}
use Rattle.chip_core.specs.Iterate.{iterate}
use Rattle.chip_core.specs.Machine.{state, memory_of}
use Rattle.chip_core.proofs.Running.{Fit}
use Rattle.chip_core.proofs.clock.clocked.Given as goal

abbrev pub invariant-loop : goal.invariant-loop
invariant-loop l =
    (l.counter ≤ l.clocks) × Fit (state l.at l.cells) × (state l.at l.cells ≡ iterate (clock (memory_of l.image)) l.counter (state l.fn.machine l.fn.cells))
