-- What is due of all keys is what is due of those that are left.
use Rattle.std.proofs.Common.{◌≡◌, length}
use Rattle.std.specs.Vec.Iter.{into_iter_items}
use Rattle.cat_model.specs.Conditions.{needs_each}
use Rattle.cat_model.specs.Trees.{Tree, outcome, seen}
use Rattle.eng_steps.proofs.condition.needs_each.Given as goal

abbrev pub invariant-keys : goal.invariant-keys
invariant-keys l = (next : Tree) → outcome (needs_each l.fn.keys.items next) (seen l.fn.named) ≡ outcome (needs_each (into_iter_items l.left) next) (seen l.fn.named)

abbrev pub decreases-keys : goal.decreases-keys
decreases-keys l = length (into_iter_items l.left)
