use Rattle.std.proofs.Common.{◌≡◌, ◌++◌, map, take}
use Rattle.dep_sort.proofs.cut.push_behind.Given as goal

abbrev pub invariant-loop-bound : goal.invariant-loop-bound
invariant-loop-bound l = l.arcs.items ≡ l.initial.arcs.items ++ map (λ bound. (l.place, bound)) (take l.bound-index l.bounds)
