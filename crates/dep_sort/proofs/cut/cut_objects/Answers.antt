use Rattle.std.proofs.Common.{◌≡◌, ℕ, ◌<◌, ◌++◌, false, List, Bool, length, map, get_or, ap, subst, ◌∙◌}
use Rattle.std.specs.Prelude.{◌&&◌, nat_eq}
use Rattle.std.specs.List.{enumerate_from, list_any}
use Rattle.graph_parts.specs.declared.object.Obj.{Obj}
use Rattle.graph_parts.specs.declared.graph.Edge.{Edge}
use Rattle.dep_sort.specs.Cut.{breaks, without_body}
use Rattle.dep_sort.proofs.Left.{left_by, left_are}
use Rattle.dep_sort.proofs.cut.cut_objects.Goals as goal

pub returns : goal.returns
returns c =
    let objects : List Obj = c.args.graph.now.objects in
    let edges : List Edge = c.args.graph.now.edges in
    let bodiless : List Bool = c.in_ok-bodiless.bodiless.items in
    let each : (place : ℕ) → place < length objects → get_or bodiless place false ≡ list_any (λ (edge : Edge). nat_eq edge.from place && breaks edges edge) edges =
    subst (λ (es : List Edge). (place : ℕ) → place < length objects → get_or bodiless place false ≡ list_any (λ (edge : Edge). nat_eq edge.from place && breaks es edge) es) c.edges.ensures.value
    (subst (λ (os : List Obj). (place : ℕ) → place < length os → get_or bodiless place false ≡ list_any (λ (edge : Edge). nat_eq edge.from place && breaks c.edges.result.now edge) c.edges.result.now) c.objects.ensures.value c.in_ok-bodiless.ensures.each) in
    let left : c.in_ok-objects.objects.items ≡ map (without_body edges) (enumerate_from 0 objects) =
    c.in_ok-objects.ensures
    ∙ ap (λ (l : List Bool). map (left_by l) (enumerate_from 0 c.objects-2.result.now)) c.deref.ensures.value
    ∙ ap (λ (os : List Obj). map (left_by bodiless) (enumerate_from 0 os)) c.objects-2.ensures.value
    ∙ left_are edges bodiless objects each in
    c.in_ok-append.ensures.items
    ∙ ap (λ (l : List Obj). l ++ c.into_objects.result.items) left
    ∙ ap (λ (l : List Obj). map (without_body edges) (enumerate_from 0 objects) ++ l) c.into_objects.ensures
