-- The key stands behind those so far.
use Rattle.std.proofs.Common.{◌≡◌, ◌++◌, take, drop}
use Rattle.cat_model.specs.CopyEffect.{placed}
use Rattle.rows_fit.proofs.key_order.place_in.Given as goal

abbrev pub invariant-loop-i : goal.invariant-loop-i
invariant-loop-i l = placed l.key l.sorted ≡ take l.i l.sorted ++ placed l.key (drop l.i l.sorted)
