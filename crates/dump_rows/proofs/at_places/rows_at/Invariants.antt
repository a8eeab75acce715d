-- The rows at the places so far.
use Rattle.std.proofs.Common.{◌≡◌, map, take}
use Rattle.std.specs.List.{filter_map, slice_get}
use Rattle.dump_rows.proofs.at_places.rows_at.Given as goal

abbrev pub invariant-loop-place : goal.invariant-loop-place
invariant-loop-place g l = map (λ r. r.now) l.found.items ≡ filter_map (slice_get l.rows) (take l.place-index l.places)
