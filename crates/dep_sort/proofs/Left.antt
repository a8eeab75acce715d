-- What is left of a graph of which edges break.
use Rattle.std.proofs.Common.{◌≡◌, ℕ, ◌+◌, ◌<◌, ◌≤◌, ◌^◌, Bool, true, false, List, [], ◌∷◌, ◌++◌, length, map, get_or, take, Option, Some, None, inl, inr, refl, sym, ap, subst, ◌∙◌, arith}
use Rattle.std.specs.Prelude.{◌&&◌, nat_eq, if◌then◌else◌}
use Rattle.std.specs.List.{AllByRecursion, filter, flat_map, list_any, enumerate_from}
use Rattle.std.specs.Option.{option_map_or, IfSome}
use Rattle.std.proofs.lemmas.Bool.{cases_Bool}
use Rattle.std.proofs.lemmas.List.{length-map, length-append}
use Rattle.std.proofs.lemmas.List.Elements.{recursion_from_All, All-from_recursion}
use Rattle.std.proofs.lemmas.List.FromFn.{length-enumerate_from}
use Rattle.graph_parts.specs.declared.object.Obj.{Obj}
use Rattle.graph_parts.specs.declared.object.ObjKind.{ObjKind}
use Rattle.graph_parts.specs.declared.object.ObjKind.TheVariants.{Dummy}
use Rattle.graph_parts.specs.declared.graph.Edge.{Edge}
use Rattle.graph_parts.specs.Parts.{Parts, LeadsAcross, IsGraph}
use Rattle.graph_walks.specs.Arcs.{Arc, AreWithin}
use Rattle.dep_sort.specs.Cut.{CutGraph, is_view, is_default, is_rule, is_pre_data, is_post_data, arc_of, breaks, taker, moved_arcs, places_of, bound_arcs, without_body, made_by, made_of, cut}
use Rattle.dep_sort.proofs.Making.{taker_low, by_few}
use Rattle.dep_sort.proofs.Numbered.{map_numbered_more}

-- ---- the arcs

pub moved_none : (count : ℕ) (made : List Obj) (edge : Edge) → taker made edge ≡ None → (edge.from, edge.to) ∷ [] ≡ moved_arcs count made edge
unfolding moved_arcs
moved_none count made edge is = rw is refl

pub moved_some : (count : ℕ) (made : List Obj) (edge : Edge) (at : ℕ) → taker made edge ≡ Some at → edge.stays ≡ false → (count + at, edge.to) ∷ (count + at, edge.from) ∷ [] ≡ moved_arcs count made edge
unfolding moved_arcs
moved_some count made edge at is goes = rw (is, goes) refl

pub moved_shared : (count : ℕ) (made : List Obj) (edge : Edge) (at : ℕ) → taker made edge ≡ Some at → edge.stays ≡ true → (count + at, edge.to) ∷ (count + at, edge.from) ∷ (edge.from, edge.to) ∷ [] ≡ moved_arcs count made edge
unfolding moved_arcs
moved_shared count made edge at is stays = rw (is, stays) refl

pub bounds_are : (objects : List Obj) (at : ℕ) (object : Obj) (pre post : List ℕ) → pre ≡ places_of is_pre_data objects → post ≡ places_of is_post_data objects
    → (if is_default object.kind then map (λ bound. (bound, length objects + at)) pre else []) ++ (if is_rule object.kind then map (λ bound. (length objects + at, bound)) post else []) ≡ bound_arcs objects (at, object)
unfolding bound_arcs
bounds_are objects at object pre post is_pre is_post =
    ap (λ (l : List ℕ). (if is_default object.kind then map (λ bound. (bound, length objects + at)) l else []) ++ (if is_rule object.kind then map (λ bound. (length objects + at, bound)) post else [])) is_pre
    ∙ ap (λ (l : List ℕ). (if is_default object.kind then map (λ bound. (bound, length objects + at)) (places_of is_pre_data objects) else []) ++ (if is_rule object.kind then map (λ bound. (length objects + at, bound)) l else [])) is_post

-- ---- the objects

abbrev pub left_by : List Bool → ℕ × Obj → Obj
left_by bodiless e = if is_view e.1.kind && get_or bodiless e.0 false then record e.1 { kind = Dummy } else e.1

each_left : (edges : List Edge) (bodiless : List Bool) (bound n : ℕ) (objects : List Obj) → n + length objects ≤ bound
    → ((place : ℕ) → place < bound → get_or bodiless place false ≡ list_any (λ (edge : Edge). nat_eq edge.from place && breaks edges edge) edges)
    → map (left_by bodiless) (enumerate_from n objects) ≡ map (without_body edges) (enumerate_from n objects)
unfolding without_body
each_left edges bodiless bound n [] le each = refl
each_left edges bodiless bound n (object ∷ objects) le each =
    ap (λ (b : Bool). (if is_view object.kind && b then record object { kind = Dummy } else object) ∷ map (left_by bodiless) (enumerate_from (n + 1) objects)) (each n (omega arith))
    ∙ ap (λ (l : List Obj). without_body edges (n, object) ∷ l) (each_left edges bodiless bound (n + 1) objects (omega arith) each)

pub left_are : (edges : List Edge) (bodiless : List Bool) (objects : List Obj)
    → ((place : ℕ) → place < length objects → get_or bodiless place false ≡ list_any (λ (edge : Edge). nat_eq edge.from place && breaks edges edge) edges)
    → map (left_by bodiless) (enumerate_from 0 objects) ≡ map (without_body edges) (enumerate_from 0 objects)
left_are edges bodiless objects each = each_left edges bodiless (length objects) 0 objects (omega arith) each

-- one more object
pub left_more : (bodiless : List Bool) (objects left : List Obj) (place : ℕ) (object o : Obj) → place < length objects → object ≡ get_or objects place object → o ≡ left_by bodiless (place, object)
    → left ≡ map (left_by bodiless) (enumerate_from 0 (take place objects)) → left ++ o ∷ [] ≡ map (left_by bodiless) (enumerate_from 0 (take (place + 1) objects))
left_more bodiless objects left place object o low is same so_far =
    ap (λ (x : Obj). left ++ x ∷ []) same
    ∙ ap (λ (l : List Obj). l ++ left_by bodiless (place, object) ∷ []) so_far
    ∙ sym (map_numbered_more (left_by bodiless) objects place object low is)

-- ---- few objects, and arcs among them

abbrev Among : ℕ → Arc → Type 0
Among bound arc = (arc.0 < bound) × (arc.1 < bound)

among_append : (bound : ℕ) (xs ys : List Arc) → AllByRecursion (Among bound) xs → AllByRecursion (Among bound) ys → AllByRecursion (Among bound) (xs ++ ys)
among_append bound [] ys a b = b
among_append bound (x ∷ xs) ys a b = (a.0, among_append bound xs ys a.1 b)

moved_among : (count : ℕ) (made : List Obj) (edge : Edge) (t : Option ℕ) → IfSome t (λ at. at < length made) → LeadsAcross count edge
    → AllByRecursion (Among (count + length made)) (option_map_or (λ at. (count + at, edge.to) ∷ (count + at, edge.from) ∷ (if edge.stays then arc_of edge ∷ [] else [])) t (arc_of edge ∷ []))
moved_among count made edge None low leads = let h = leads.from in let k = leads.to in ((omega arith, omega arith), tt)
moved_among count made edge (Some at) low leads =
    let h : edge.from < count = leads.from in
    let k : edge.to < count = leads.to in
    let l : at < length made = low in
    elim (cases_Bool edge.stays) [
      | inl is ↦ rw is ((omega arith, omega arith), ((omega arith, omega arith), ((omega arith, omega arith), tt)))
      | inr isnt ↦ rw isnt ((omega arith, omega arith), ((omega arith, omega arith), tt))
    ]

all_moved : (count : ℕ) (made : List Obj) (edges : List Edge) → AllByRecursion (LeadsAcross count) edges → AllByRecursion (Among (count + length made)) (flat_map (moved_arcs count made) edges)
unfolding moved_arcs
all_moved count made [] all = tt
all_moved count made (edge ∷ edges) all =
    among_append (count + length made) (moved_arcs count made edge) (flat_map (moved_arcs count made) edges)
    (moved_among count made edge (taker made edge) (taker_low made edge) all.0)
    (all_moved count made edges all.1)

each_place : (bound n : ℕ) (test : ObjKind → Bool) (objects : List Obj) → n + length objects ≤ bound → AllByRecursion (λ place. place < bound) (map (λ (e : ℕ × Obj). e.0) (filter (λ (e : ℕ × Obj). test e.1.kind) (enumerate_from n objects)))
each_place bound n test [] le = tt
each_place bound n test (object ∷ objects) le =
    elim (cases_Bool (test object.kind)) [
      | inl is ↦ rw is (omega arith, each_place bound (n + 1) test objects (omega arith))
      | inr isnt ↦ rw isnt (each_place bound (n + 1) test objects (omega arith))
    ]

places_low : (test : ObjKind → Bool) (objects : List Obj) → AllByRecursion (λ place. place < length objects) (places_of test objects)
unfolding places_of
places_low test objects = each_place (length objects) 0 test objects (omega arith)

before_among : (bound place low : ℕ) (places : List ℕ) → place < bound → low ≤ bound → AllByRecursion (λ p. p < low) places → AllByRecursion (Among bound) (map (λ p. (p, place)) places)
before_among bound place low [] h le all = tt
before_among bound place low (p ∷ places) h le all = let q : p < low = all.0 in ((omega arith, h), before_among bound place low places h le all.1)

behind_among : (bound place low : ℕ) (places : List ℕ) → place < bound → low ≤ bound → AllByRecursion (λ p. p < low) places → AllByRecursion (Among bound) (map (λ p. (place, p)) places)
behind_among bound place low [] h le all = tt
behind_among bound place low (p ∷ places) h le all = let q : p < low = all.0 in ((h, omega arith), behind_among bound place low places h le all.1)

if_among : (bound : ℕ) (b : Bool) (xs : List Arc) → AllByRecursion (Among bound) xs → AllByRecursion (Among bound) (if b then xs else [])
if_among bound true xs all = all
if_among bound false xs all = tt

all_bound : (bound : ℕ) (objects : List Obj) (n : ℕ) (made : List Obj) → length objects + n + length made ≤ bound → AllByRecursion (Among bound) (flat_map (bound_arcs objects) (enumerate_from n made))
unfolding bound_arcs
all_bound bound objects n [] le = tt
all_bound bound objects n (object ∷ made) le =
    among_append bound (bound_arcs objects (n, object)) (flat_map (bound_arcs objects) (enumerate_from (n + 1) made))
    (among_append bound (if is_default object.kind then map (λ p. (p, length objects + n)) (places_of is_pre_data objects) else []) (if is_rule object.kind then map (λ p. (length objects + n, p)) (places_of is_post_data objects) else [])
    (if_among bound (is_default object.kind) (map (λ p. (p, length objects + n)) (places_of is_pre_data objects)) (before_among bound (length objects + n) (length objects) (places_of is_pre_data objects) (omega arith) (omega arith) (places_low is_pre_data objects)))
    (if_among bound (is_rule object.kind) (map (λ p. (length objects + n, p)) (places_of is_post_data objects)) (behind_among bound (length objects + n) (length objects) (places_of is_post_data objects) (omega arith) (omega arith) (places_low is_post_data objects))))
    (all_bound bound objects (n + 1) made (omega arith))

pub cut_count : (graph : Parts) → length (cut graph).objects ≡ length graph.objects + length (made_of graph)
unfolding cut
cut_count graph =
    length-append (map (without_body graph.edges) (enumerate_from 0 graph.objects)) (made_of graph)
    ∙ ap (λ (n : ℕ). n + length (made_of graph)) (length-map (enumerate_from 0 graph.objects) (without_body graph.edges) ∙ length-enumerate_from 0 graph.objects)

pub made_few : (graph : Parts) → length (made_of graph) ≤ length graph.edges
unfolding made_of
made_few graph =
    let none : List Obj = [] in
    let few : length (made_of graph) ≤ length none + length graph.edges = by_few graph.edges graph.edges [] in
    omega arith

pub cut_few : (graph : Parts) → IsGraph graph.objects graph.edges → length (cut graph).objects < 2 ^ 32
cut_few graph is =
    let few : length graph.objects + length graph.edges < 2 ^ 32 = is.few in
    let made : length (made_of graph) ≤ length graph.edges = made_few graph in
    let count : length (cut graph).objects ≡ length graph.objects + length (made_of graph) = cut_count graph in
    omega arith

pub cut_within : (graph : Parts) → IsGraph graph.objects graph.edges → AreWithin (length (cut graph).objects) (cut graph).arcs
unfolding cut
cut_within graph is =
    let bound : ℕ = length graph.objects + length (made_of graph) in
    let arcs : List Arc = flat_map (moved_arcs (length graph.objects) (made_of graph)) graph.edges ++ flat_map (bound_arcs graph.objects) (enumerate_from 0 (made_of graph)) in
    subst (λ (n : ℕ). AreWithin n arcs) (sym (cut_count graph))
    (All-from_recursion (Among bound) arcs
    (among_append bound (flat_map (moved_arcs (length graph.objects) (made_of graph)) graph.edges) (flat_map (bound_arcs graph.objects) (enumerate_from 0 (made_of graph)))
    (all_moved (length graph.objects) (made_of graph) graph.edges (recursion_from_All (LeadsAcross (length graph.objects)) graph.edges is.ends))
    (all_bound bound graph.objects 0 (made_of graph) (omega arith))))

-- ---- both together

pub cut_is : (graph : Parts) (made objects : List Obj) (arcs : List Arc) → made ≡ made_of graph
    → objects ≡ map (without_body graph.edges) (enumerate_from 0 graph.objects) ++ made
    → arcs ≡ flat_map (moved_arcs (length graph.objects) made) graph.edges ++ flat_map (bound_arcs graph.objects) (enumerate_from 0 made)
    → record { objects = objects; arcs = arcs } ≡ cut graph
unfolding cut
cut_is graph made objects arcs is_made is_objects is_arcs =
    ap (λ (os : List Obj). let g : CutGraph = record { objects = os; arcs = arcs } in g) (is_objects ∙ ap (λ (m : List Obj). map (without_body graph.edges) (enumerate_from 0 graph.objects) ++ m) is_made)
    ∙ ap (λ (l : List Arc). let g : CutGraph = record { objects = map (without_body graph.edges) (enumerate_from 0 graph.objects) ++ made_of graph; arcs = l } in g)
    (is_arcs ∙ ap (λ (m : List Obj). flat_map (moved_arcs (length graph.objects) m) graph.edges ++ flat_map (bound_arcs graph.objects) (enumerate_from 0 m)) is_made)

pub made_is : (graph : Parts) (edges : List Edge) (made : List Obj) → edges ≡ graph.edges → made ≡ made_by edges edges [] → made ≡ made_of graph
unfolding made_of
made_is graph edges made same is = is ∙ ap (λ (es : List Edge). made_by es es []) same
