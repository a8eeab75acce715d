-- The set has the names from here on, and they are distinct.
use Rattle.std.proofs.Common.{◌≡◌, ◌≤◌, true, drop, length}
use Rattle.cat_model.specs.Tables.{distinct}
use Rattle.field_values.specs.Labels.{AreLabels}
use Rattle.rows_fit.proofs.names.are_distinct.Given as goal

abbrev pub invariant-loop-i : goal.invariant-loop-i
invariant-loop-i l = AreLabels (drop l.i l.names) l.later × (distinct (drop l.i l.names) ≡ true) × (l.i ≤ length l.names)

abbrev pub decreases-loop-i : goal.decreases-loop-i
decreases-loop-i l = l.i
