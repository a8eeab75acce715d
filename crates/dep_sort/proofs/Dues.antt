-- What is due of a graph, by its cut graph.
use Rattle.std.proofs.Common.{◌≡◌, ℕ, true, false, List, length, Ok, Err, sym, ap, subst, ◌∙◌}
use Rattle.std.specs.Prelude.{nat_eq, filter_map, slice_get}
use Rattle.std.proofs.lemmas.Bool.{eq-eqb, ne_eqb}
use Rattle.graph_parts.specs.declared.object.Obj.{Obj}
use Rattle.graph_parts.specs.declared.object.ObjId.{ObjId}
use Rattle.graph_parts.specs.Parts.{Parts}
use Rattle.graph_walks.specs.Arcs.{Arc}
use Rattle.dep_sort.specs.declared.ordering.OrderError.{OrderError}
use Rattle.dep_sort.specs.declared.ordering.OrderError.TheVariants as errors
use Rattle.dep_sort.specs.Answering.{IsTold, Fails}
use Rattle.dep_sort.specs.Cut.{CutGraph, cut}
use Rattle.dep_sort.specs.Ordering.{Sorted, final_places, depends_of, sorted, loop_of, due_if, due}

pub places_are : (graph : CutGraph) (places : List ℕ) (objects : List Obj) (arcs : List Arc) → objects ≡ graph.objects → arcs ≡ graph.arcs → places ≡ final_places (record { objects = objects; arcs = arcs }) → places ≡ final_places graph
places_are graph places objects arcs same_objects same_arcs is =
    is
    ∙ ap (λ (l : List Obj). final_places (record { objects = l; arcs = arcs })) same_objects
    ∙ ap (λ (l : List Arc). final_places (record { objects = graph.objects; arcs = l })) same_arcs

pub sorted_is : (graph : CutGraph) (objects : List Obj) (depends : List (List ℕ)) (places : List ℕ) (given : List Obj) (arcs : List Arc) → places ≡ final_places graph → given ≡ graph.objects → arcs ≡ graph.arcs
    → objects ≡ filter_map (slice_get given) places → depends ≡ depends_of arcs places → record { objects = objects; depends = depends } ≡ sorted graph
unfolding sorted
sorted_is graph objects depends places given arcs is same_objects same_arcs picked needed =
    ap (λ (l : List Obj). let s : Sorted = record { objects = l; depends = depends } in s)
    (picked ∙ ap (λ (l : List Obj). filter_map (slice_get l) places) same_objects ∙ ap (filter_map (slice_get graph.objects)) is)
    ∙ ap (λ (l : List (List ℕ)). let s : Sorted = record { objects = filter_map (slice_get graph.objects) (final_places graph); depends = l } in s)
    (needed ∙ ap (λ (l : List Arc). depends_of l places) same_arcs ∙ ap (depends_of graph.arcs) is)

pub due_whole : (graph : Parts) (left : CutGraph) (order : Sorted) → left ≡ cut graph → order ≡ sorted left → length (final_places left) ≡ length left.objects → due graph ≡ Ok order
unfolding due due_if
due_whole graph left order is ordered whole =
    let test : nat_eq (length (final_places left)) (length left.objects) ≡ true = eq-eqb (length (final_places left)) (length left.objects) whole in
    let here : due_if (nat_eq (length (final_places left)) (length left.objects)) left ≡ Ok order = ap (λ b. due_if b left) test ∙ ap (λ (s : Sorted). Ok s) (sym ordered) in
    ap (λ (g : CutGraph). due_if (nat_eq (length (final_places g)) (length g.objects)) g) (sym is) ∙ here

told_fails : (error : OrderError) (path : List ObjId) → IsTold error path → Fails error (Err path)
told_fails (errors.Loop told) path is = ap (λ (l : List ObjId). Err l) (sym is)
told_fails errors.Memory path is = tt

pub due_loop : (graph : Parts) (left : CutGraph) (error : OrderError) → left ≡ cut graph → IsTold error (loop_of left) → (length (final_places left) ≡ length left.objects → ⊥) → Fails error (due graph)
unfolding due due_if
due_loop graph left error is told short =
    let test : nat_eq (length (final_places left)) (length left.objects) ≡ false = ne_eqb (length (final_places left)) (length left.objects) short in
    let here : due_if (nat_eq (length (final_places left)) (length left.objects)) left ≡ Err (loop_of left) = ap (λ b. due_if b left) test in
    let whole : due graph ≡ Err (loop_of left) = ap (λ (g : CutGraph). due_if (nat_eq (length (final_places g)) (length g.objects)) g) (sym is) ∙ here in
    subst (Fails error) (sym whole) (told_fails error (loop_of left) told)
