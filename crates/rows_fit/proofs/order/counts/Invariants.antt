-- The places so far count.
use Rattle.std.proofs.Common.{◌≡◌, drop}
use Rattle.rows_fit.specs.Orders.{counts_from}
use Rattle.rows_fit.proofs.order.counts.Given as goal

abbrev pub invariant-loop-i : goal.invariant-loop-i
invariant-loop-i l = counts_from 0 l.places ≡ counts_from l.i (drop l.i l.places)
