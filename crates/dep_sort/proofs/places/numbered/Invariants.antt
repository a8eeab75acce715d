use Rattle.std.proofs.Common.{◌≡◌, map, take}
use Rattle.std.specs.List.{enumerate_from}
use Rattle.dep_sort.proofs.Sorting.{Entry}
use Rattle.dep_sort.proofs.places.numbered.Given as goal

abbrev pub invariant-loop-place : goal.invariant-loop-place
invariant-loop-place l = map (λ (e : Entry). (e.0, e.1.now)) l.entries.items ≡ enumerate_from 0 (take l.place l.objects)
