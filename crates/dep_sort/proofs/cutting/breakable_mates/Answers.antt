use Rattle.std.proofs.Common.{map, get_or, ap, ◌∙◌}
use Rattle.std.specs.Prelude.{◌&&◌, nat_eq}
use Rattle.std.proofs.lemmas.List.{take_all}
use Rattle.graph_parts.specs.declared.graph.Edge.{Edge}
use Rattle.dep_sort.specs.Cut.{is_breakable}
use Rattle.dep_sort.proofs.cutting.breakable_mates.Goals as goal

pub returns : goal.returns
returns c =
    c.loop-edge.invariant
    ∙ ap (map (λ (e : Edge). is_breakable e && nat_eq (get_or c.args.marks.now e.from 0) (get_or c.args.marks.now e.to 0))) (take_all c.loop-edge.edge-index c.args.edges.now c.loop-edge-test.false)
