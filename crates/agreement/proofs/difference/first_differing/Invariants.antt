-- The places before the one that the loop has come to are the same on both sides.
use Rattle.std.proofs.Common.{◌≡◌, drop}
use Rattle.agreement.specs.Difference.{first_differing}
use Rattle.agreement.proofs.Cells.{beyond}
use Rattle.agreement.proofs.difference.first_differing.Given as goal

abbrev pub invariant-loop-place : goal.invariant-loop-place
invariant-loop-place l = beyond l.place (first_differing (drop l.place l.cells) (drop l.place l.others)) ≡ first_differing l.cells l.others
