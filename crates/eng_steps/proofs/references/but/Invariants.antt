-- All keys but the one are those that are kept, and behind them those of the keys that are left.
use Rattle.std.proofs.Common.{◌≡◌, ◌++◌, length}
use Rattle.std.specs.Vec.Iter.{into_iter_items}
use Rattle.cat_model.specs.TypeEffects.{but}
use Rattle.eng_steps.proofs.references.but.Given as goal

abbrev pub invariant-keys : goal.invariant-keys
invariant-keys l = but l.fn.out l.fn.keys.items ≡ l.kept.items ++ but l.fn.out (into_iter_items l.left)

abbrev pub decreases-keys : goal.decreases-keys
decreases-keys l = length (into_iter_items l.left)
