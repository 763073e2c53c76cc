-- `chip_core::clock::instruction` meets its promise: with FETCH next it makes three clocks, which are one instruction (`three`); else nothing is done, and
-- 33 stands after the numbers of a clock.
-- Assumes nothing.
use Rattle.std.proofs.Common.{◌≡◌, ◌≢◌, false, length, sym, refl, ap}
use Rattle.chip_core.specs.Instruction.{is_fetch}
use Rattle.chip_core.specs.Machine.{state, memory_of}
use Rattle.chip_core.specs.declared.control.Stage.{Stage}
use Rattle.chip_core.specs.declared.control.Stage.TheVariants.{Fetch, Decode, Execute}
use Rattle.chip_core.proofs.Refusals.{fetch_next, fetch_not_next_lem, tries_33}
use Rattle.chip_core.proofs.ThreeClocks.{three}
use Rattle.chip_core.proofs.clock.instruction.Goals as goal

not_next : (stage : Stage) → stage ≢ Fetch → is_fetch stage ≡ false
not_next Fetch n = absurd (n refl)
not_next Decode n = refl
not_next Execute n = refl

pub returns-in-Fetch : goal.returns-in-Fetch
returns-in-Fetch c =
    let x = c.args in
    let t = three (memory_of x.image.now) (state x.machine x.cells.now) c.in-Fetch.is in
    rw (fetch_next x.machine x.image.now (length x.cells.now) (ap is_fetch c.in-Fetch.is), sym t) c.run.ensures

pub returns : goal.returns
returns c =
    let x = c.args in
    let e = fetch_not_next_lem x.machine x.image.now (length x.cells.now) (not_next x.machine.stage c.in_default.not-Fetch) in
    rw (e, c.and.ensures, sym c.check_call.ensures) (tries_33 c.check_call.result (state x.machine x.cells.now) _)
