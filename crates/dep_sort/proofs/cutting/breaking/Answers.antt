use Rattle.std.proofs.Common.{◌≡◌, ℕ, Bool, List, length, map, get_or, Vec, Global, sym, ap, subst, ◌∙◌}
use Rattle.std.specs.Prelude.{◌&&◌, nat_eq}
use Rattle.std.proofs.lemmas.Result.{IfOk-weaker}
use Rattle.graph_parts.specs.declared.graph.Edge.{Edge}
use Rattle.graph_walks.specs.Alike.{AreAlike}
use Rattle.graph_walks.specs.Arcs.{Arc, AreWithin}
use Rattle.dep_sort.specs.Cut.{arc_of, is_breakable, breaks}
use Rattle.dep_sort.proofs.Mates.{breaks_are, arcs_within}
use Rattle.dep_sort.proofs.cutting.breaking.Goals as goal

pub of-requires-clause-within : goal.of-requires-clause-within
of-requires-clause-within c =
    let edges : List Edge = c.args.graph.now.edges in
    let arcs : c.in_ok-arcs.arcs.items ≡ map arc_of edges = c.in_ok-arcs.ensures ∙ ap (map arc_of) c.edges-edges.ensures.value in
    subst (AreWithin (length c.objects.result.now)) (sym arcs) (arcs_within (length c.objects.result.now) edges c.objects.ensures.graph.ends)

pub returns : goal.returns
returns c =
    let edges : List Edge = c.args.graph.now.edges in
    let marks : List ℕ = c.in_ok-marks.marks.items in
    let arcs : c.in_ok-arcs.arcs.items ≡ map arc_of edges = c.in_ok-arcs.ensures ∙ ap (map arc_of) c.edges-edges.ensures.value in
    let alike : AreAlike (length c.objects.result.now) (map arc_of edges) c.in_ok-net.net.arcs = subst (λ (l : List Arc). AreAlike (length c.objects.result.now) l c.in_ok-net.net.arcs) arcs c.in_ok-net.ensures.alike in
    let tested : List ℕ → List Edge → List Bool = λ l es. map (λ (e : Edge). is_breakable e && nat_eq (get_or l e.from 0) (get_or l e.to 0)) es in
    IfOk-weaker c.breakable_mates.result (λ (v : Vec Bool Global). v.items ≡ tested c.deref.result.now c.edges-edges.result.now) (λ (v : Vec Bool Global). v.items ≡ map (breaks edges) edges)
    (λ v is. is ∙ ap (tested c.deref.result.now) c.edges-edges.ensures.value ∙ ap (λ (l : List ℕ). tested l edges) c.deref.ensures.value
    ∙ breaks_are edges c.in_ok-net.net.arcs (length c.objects.result.now) marks alike c.in_ok-marks.ensures.mates)
    c.breakable_mates.ensures
