use Rattle.std.proofs.Common.{ℕ, ◌++◌, List, sym, ap, ◌∙◌}
use Rattle.graph_parts.specs.declared.object.Obj.{Obj}
use Rattle.graph_walks.specs.Arcs.{Arc}
use Rattle.dep_sort.specs.Cut.{bound_arcs}
use Rattle.dep_sort.proofs.Left.{bounds_are}
use Rattle.dep_sort.proofs.Numbered.{flat_map_numbered_more}
use Rattle.dep_sort.proofs.cut.bound_arcs.Goals as goal

pub loop-at-preserved : goal.loop-at-preserved
loop-at-preserved c =
    let objects : List Obj = c.args.objects.now in
    let object : Obj = c.index-made-at.result in
    let at : ℕ = c.loop-at.at in
    c.in_ok-push_arcs.ensures
    ∙ ap (λ (l : List Arc). c.loop-at.arcs.items ++ l) (bounds_are objects at object c.in_ok-bounds.bounds.pre_data.items c.in_ok-bounds.bounds.post_data.items c.in_ok-bounds.ensures.pre_data c.in_ok-bounds.ensures.post_data)
    ∙ ap (λ (l : List Arc). l ++ bound_arcs objects (at, object)) c.loop-at.invariant
    ∙ sym (flat_map_numbered_more (bound_arcs objects) c.args.made.now at object c.loop-at-test.true c.index-made-at.is)
