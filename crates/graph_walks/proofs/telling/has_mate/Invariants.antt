use Rattle.std.proofs.Common.{◌≡◌, false, get_or, take}
use Rattle.std.specs.Prelude.{nat_eq}
use Rattle.std.specs.List.{list_any}
use Rattle.graph_walks.proofs.telling.has_mate.Given as goal

abbrev pub invariant-loop-arc : goal.invariant-loop-arc
invariant-loop-arc l = list_any (λ arc. nat_eq (get_or l.marks arc.0 0) (get_or l.marks arc.1 0)) (take l.arc-index l.arcs) ≡ false
