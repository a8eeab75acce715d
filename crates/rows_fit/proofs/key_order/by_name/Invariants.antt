-- The keys that are left are still to be put among those that are sorted.
use Rattle.std.proofs.Common.{◌≡◌, vec_len}
use Rattle.cat_model.specs.CopyEffect.{by_name}
use Rattle.rows_fit.proofs.Placing.{placed_all}
use Rattle.rows_fit.proofs.key_order.by_name.Given as goal

abbrev pub invariant-loop-key : goal.invariant-loop-key
invariant-loop-key l = by_name l.fn.keys.items ≡ placed_all l.left.items l.sorted.items

abbrev pub decreases-loop-key : goal.decreases-loop-key
decreases-loop-key l = vec_len l.left
