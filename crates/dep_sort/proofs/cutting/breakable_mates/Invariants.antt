use Rattle.std.proofs.Common.{◌≡◌, map, get_or, take}
use Rattle.std.specs.Prelude.{◌&&◌, nat_eq}
use Rattle.dep_sort.specs.Cut.{is_breakable}
use Rattle.dep_sort.proofs.cutting.breakable_mates.Given as goal

abbrev pub invariant-loop-edge : goal.invariant-loop-edge
invariant-loop-edge l = l.mates.items ≡ map (λ e. is_breakable e && nat_eq (get_or l.marks e.from 0) (get_or l.marks e.to 0)) (take l.edge-index l.edges)
