use Rattle.std.proofs.Common.{◌≡◌, take}
use Rattle.std.specs.Prelude.{filter_map, option_map, slice_get}
use Rattle.dep_sort.proofs.ordering.ids_at.Given as goal

abbrev pub invariant-loop-place : goal.invariant-loop-place
invariant-loop-place l = l.found.items ≡ filter_map (λ place. option_map (λ object. object.id) (slice_get l.objects place)) (take l.place-index l.places)
