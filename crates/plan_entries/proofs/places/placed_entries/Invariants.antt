-- The entries that have their places, and those to come, are the whole plan.
use Rattle.std.proofs.Common.{length, []}
use Rattle.std.specs.Vec.Iter.{into_iter_items}
use Rattle.restore_plan.specs.Order.{plan_behind}
use Rattle.plan_entries.proofs.Behind.{Placing}
use Rattle.plan_entries.proofs.places.placed_entries.Given as goal

abbrev pub invariant-entries : goal.invariant-entries
invariant-entries l = Placing l.earlier.ids l.earlier.lockable l.earlier.rows l.parents l.placed.items (into_iter_items l.left) (plan_behind l.fn.parents [] l.fn.entries.items)

abbrev pub decreases-entries : goal.decreases-entries
decreases-entries l = length (into_iter_items l.left)
