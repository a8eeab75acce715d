use Rattle.std.proofs.Common.{◌≡◌, take}
use Rattle.dep_sort.specs.Cut.{is_pre_data, is_post_data, places_of}
use Rattle.dep_sort.proofs.cut.Bounds.of.Given as goal

abbrev pub invariant-loop-place : goal.invariant-loop-place
invariant-loop-place l = record {
  pre_data : l.bounds.pre_data.items ≡ places_of is_pre_data (take l.place l.objects);
  post_data : l.bounds.post_data.items ≡ places_of is_post_data (take l.place l.objects);
}
