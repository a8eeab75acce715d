-- What is left makes of the map so far what all changes make of the first one, and there is room for it.
use Rattle.std.proofs.Common.{◌≡◌, ◌≤◌, length}
use Rattle.std.specs.FinMap.{from_entries}
use Rattle.std.specs.Vec.Iter.{into_iter_items}
use Rattle.indexmap.specs.IndexMap.{spare}
use Rattle.cat_model.specs.Keys.{key_cmp}
use Rattle.cat_model.specs.Trees.{changed}
use Rattle.eng_map.proofs.named_map.put_all.Given as goal

abbrev pub invariant-changes : goal.invariant-changes
invariant-changes l =
    (changed (into_iter_items l.left) (from_entries l.values.entries) ≡ changed l.fn.changes.items (from_entries l.fn.values.entries))
    × (length (into_iter_items l.left) ≤ spare l.values)

abbrev pub decreases-changes : goal.decreases-changes
decreases-changes l = length (into_iter_items l.left)
