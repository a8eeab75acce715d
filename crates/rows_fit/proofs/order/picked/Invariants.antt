-- The fields at the places so far.
use Rattle.std.proofs.Common.{◌≡◌, map, take}
use Rattle.rows_fit.specs.Orders.{field_from}
use Rattle.rows_fit.proofs.order.picked.Given as goal

abbrev pub invariant-loop-place : goal.invariant-loop-place
invariant-loop-place l = l.fields ≡ map (field_from l.row) (take l.place-index l.order)
