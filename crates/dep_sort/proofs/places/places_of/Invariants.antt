use Rattle.std.proofs.Common.{◌≡◌, map, take}
use Rattle.dep_sort.proofs.Sorting.{Entry}
use Rattle.dep_sort.proofs.places.places_of.Given as goal

abbrev pub invariant-loop-entry : goal.invariant-loop-entry
invariant-loop-entry l = l.places.items ≡ map (λ (e : Entry). e.0) (take l.entry-index l.entries)
