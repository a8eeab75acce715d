-- The columns so far are those of the places so far.
use Rattle.std.proofs.Common.{◌≡◌, take}
use Rattle.std.specs.List.{filter_map, slice_get}
use Rattle.std.specs.Option.{option_and_then}
use Rattle.cat_naming.specs.Relations.{column_of}
use Rattle.cat_naming.proofs.columns.columns_of.Given as goal

abbrev pub invariant-loop-place : goal.invariant-loop-place
invariant-loop-place l = l.columns.items ≡ filter_map (λ p. option_and_then (column_of l.fn.lookups) (slice_get l.rows p)) (take l.place-index l.place-items)
