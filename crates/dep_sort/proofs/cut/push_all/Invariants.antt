use Rattle.std.proofs.Common.{◌≡◌, ◌++◌, take}
use Rattle.dep_sort.proofs.cut.push_all.Given as goal

abbrev pub invariant-loop-arc : goal.invariant-loop-arc
invariant-loop-arc l = l.arcs.items ≡ l.initial.arcs.items ++ take l.arc-index l.more
