-- The rows so far stand before those of the rows that are left.
use Rattle.std.proofs.Common.{◌≡◌, ◌+◌, ◌<◌, ◌^◌, ℕ, List, length}
use Rattle.std.specs.Option.{option_map}
use Rattle.std.specs.Vec.Iter.{into_iter_items}
use Rattle.rows_fit.specs.Plans.{Stands}
use Rattle.rows_fit.specs.Tried.{tried_from}
use Rattle.rows_fit.proofs.Reading.{before}
use Rattle.rows_fit.proofs.copying.rows_tried.Given as goal

abbrev pub invariant-rows : goal.invariant-rows
invariant-rows l =
    ((names primary : List (List ℕ)) → Stands l.columns names primary (option_map (λ o. o.items) l.order) l.required
    → tried_from l.columns names primary 1 l.fn.rows.items ≡ before l.fit.items (tried_from l.columns names primary (l.number + 1) (into_iter_items l.left))
    ) × (l.number + length (into_iter_items l.left) < 2 ^ 64)

abbrev pub decreases-rows : goal.decreases-rows
decreases-rows l = length (into_iter_items l.left)
