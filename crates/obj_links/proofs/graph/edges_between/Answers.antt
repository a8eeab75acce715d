use Rattle.std.proofs.Common.{◌≡◌, [], ◌∷◌, ◌++◌, filter_map, sym, ap, ◌∙◌}
use Rattle.std.specs.Vec.Iter.{into_iter_items}
use Rattle.obj_graph.specs.Graphs.{edge_of}
use Rattle.obj_links.proofs.Edges.{joined}
use Rattle.obj_links.proofs.graph.edges_between.Goals as goal

pub links-preserved : goal.links-preserved
links-preserved c =
    let objects = c.args.objects.now in
    let old = c.links.edges.items in
    let left' = into_iter_items c.next.new.self in
    let left : into_iter_items c.links.left ≡ c.in-Some.link ∷ left' = c.in-Some.ensures.items in
    ap (λ l. l ++ filter_map (edge_of objects) left') (c.in_ok-push_edge.ensures ∙ ap (λ o. old ++ filter_map (λ e. e) (o ∷ [])) (c.edge_of.ensures objects c.in_ok-places.ensures))
    ∙ joined old (edge_of objects c.in-Some.link) (filter_map (edge_of objects) left')
    ∙ ap (λ ls. old ++ filter_map (edge_of objects) ls) (sym left)
    ∙ c.links.invariant
