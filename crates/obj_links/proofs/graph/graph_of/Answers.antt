use Rattle.std.proofs.Common.{◌++◌, ◌∙◌, length, All, subst, sym, ap, rules}
use Rattle.std.specs.List.{flat_map}
use Rattle.graph_parts.specs.Parts.{LeadsAcross}
use Rattle.obj_graph.specs.BoundaryLinks.{boundary_links}
use Rattle.obj_graph.specs.Graphs.{links, edges_between}
use Rattle.obj_links.proofs.Edges.{all_lead}
use Rattle.obj_links.proofs.graph.graph_of.Goals as goal

pub new-requires : goal.new-requires
new-requires c =
    let objects = c.in_ok-objects.objects.items in
    let all = links c.args.beside.now in
    record {
      few = search rules;
      ends = subst (All (LeadsAcross (length objects))) (sym (c.in_ok-edges.ensures ∙ ap (λ os. edges_between os (all ++ flat_map boundary_links os)) c.deref.ensures.value)) (all_lead objects (all ++ flat_map boundary_links objects));
    }
