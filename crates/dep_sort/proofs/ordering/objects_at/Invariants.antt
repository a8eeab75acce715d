use Rattle.std.proofs.Common.{◌≡◌, length, take}
use Rattle.std.specs.Prelude.{filter_map, slice_get}
use Rattle.dep_sort.proofs.ordering.objects_at.Given as goal

abbrev pub invariant-loop-place : goal.invariant-loop-place
invariant-loop-place l = record {
  value : l.found.items ≡ filter_map (slice_get l.objects) (take l.place-index l.places);
  count : length l.found.items ≡ l.place-index;
}
