use Rattle.std.proofs.Common.{◌≡◌, ◌<◌, ◌^◌, List, length, sym, subst}
use Rattle.graph_parts.specs.declared.graph.Edge.{Edge}
use Rattle.graph_parts.specs.Parts.{Parts, IsGraph}
use Rattle.graph_walks.specs.Arcs.{AreWithin}
use Rattle.dep_sort.specs.Cut.{CutGraph, made_of, cut}
use Rattle.dep_sort.proofs.Left.{cut_few, cut_within, cut_is, made_is}
use Rattle.dep_sort.proofs.cut.Cut.of.Goals as goal

pub invariant_of-result : goal.invariant_of-result
invariant_of-result c =
    let graph : Parts = c.args.graph.now in
    let made : c.in_ok-made.made ≡ made_of graph = made_is graph c.edges.result.now c.in_ok-made.made c.edges.ensures.value c.in_ok-made.ensures.value in
    let is : record { objects = c.in_ok-objects.objects.items; arcs = c.in_ok-arcs.arcs.items } ≡ cut graph = cut_is graph c.in_ok-made.made c.in_ok-objects.objects.items c.in_ok-arcs.arcs.items made c.in_ok-objects.ensures c.in_ok-arcs.ensures in
    let sound : IsGraph graph.objects graph.edges = subst (λ (es : List Edge). IsGraph graph.objects es) c.edges.ensures.value c.edges.ensures.graph in
    subst (λ (g : CutGraph). (length g.objects < 2 ^ 32) × AreWithin (length g.objects) g.arcs) (sym is) (cut_few graph sound, cut_within graph sound)

pub returns : goal.returns
returns c =
    let graph : Parts = c.args.graph.now in
    cut_is graph c.in_ok-made.made c.in_ok-objects.objects.items c.in_ok-arcs.arcs.items (made_is graph c.edges.result.now c.in_ok-made.made c.edges.ensures.value c.in_ok-made.ensures.value) c.in_ok-objects.ensures c.in_ok-arcs.ensures
