-- `agreement::agree::run_both` meets its promise: by the laws of Both, from what the line runner and the run of the image promise.
-- Assumes nothing.
use Rattle.std.proofs.Common.{refl}
use Rattle.deck.proofs.Accepted.{lines_accepted}
use Rattle.agreement.proofs.Both.{both_agree}
use Rattle.agreement.proofs.agree.run_both.Goals as goal

pub clock_image-clocked-requires : goal.clock_image-clocked-requires
clock_image-clocked-requires c =
    let a = c.args in
    let ran = c.run_lines in
    lines_accepted a.asked a.deck.now a.cells.now ran.result ran.new.cells ran.ensures (rw c.in_ok-ran.was refl)

pub returns : goal.returns
returns c =
    let a = c.args in
    let ran = c.run_lines in
    let clocked = c.clock_image-clocked in
    both_agree a.asked a.deck.now a.cells.now ran.result ran.new.cells ran.ensures c.in_ok-ran.ran c.in_ok-ran.was c.told-cells
    clocked.result clocked.new.cells (rw c.requires at clocked.ensures) _ c.first_difference.ensures
