-- Which objects are made, and what they take over.
use Rattle.std.proofs.Common.{◌≡◌, ℕ, zero, suc, ◌+◌, arith, Bool, true, false, cond, List, [], ◌∷◌, ◌++◌, length, map, Option, Some, None, is_some, inl, inr, refl, sym, ap, subst, ◌∙◌}
use Rattle.std.specs.Prelude.{◌&&◌, ◌||◌, nat_eq, MatchOption, if◌then◌else◌, slice_get}
use Rattle.std.specs.List.{All, AllByRecursion, flat_map, enumerate_from, list_any}
use Rattle.std.specs.Option.{option_map_or}
use Rattle.std.proofs.lemmas.Bool.{cases_Bool, eq-eqb, and_from, or_left, or_right}
use Rattle.std.proofs.lemmas.List.Elements.{All-from_recursion}
use Rattle.std.proofs.lemmas.List.Folds.{list_any-append}
use Rattle.graph_parts.specs.declared.object.Obj.{Obj}
use Rattle.graph_parts.specs.declared.object.ObjId.{ObjId}
use Rattle.graph_parts.specs.declared.graph.Edge.{Edge}
use Rattle.graph_parts.specs.Parts.{Parts}
use Rattle.graph_walks.specs.Arcs.{Arc, needs}
use Rattle.dep_sort.specs.Cut.{same_id, is_default, is_rule, is_pre_data, is_post_data, places_of, arc_of, breaks, made_at, made_once, made_by, taker, moved_arcs, bound_arcs, made_of, cut}
use Rattle.dep_sort.specs.Sound.{moves_to_id, breaks_for, IsKept, IsOnItsSide}
use Rattle.dep_sort.proofs.Making.{at_push, same_ids_are}

-- ---- which are made

or_true : (b : Bool) → (b || true) ≡ true
or_true true = refl
or_true false = refl

or_none : (b : Bool) → (b || false) ≡ b
or_none true = refl
or_none false = refl

or_more : (a b c : Bool) → ((a || b) || c) ≡ (a || (b || c))
or_more true b c = refl
or_more false b c = refl

some_cond : (p : Option ℕ) (b : Bool) (n : ℕ) → is_some (cond (is_some p) p (cond b (Some n) None)) ≡ (is_some p || b)
some_cond None true n = refl
some_cond None false n = refl
some_cond (Some k) b n = refl

there_already : (made : List Obj) (id other : ObjId) → is_some (made_at made other) ≡ true → is_some (made_at made id) ≡ (is_some (made_at made id) || same_id id other)
there_already made id other there =
    elim (cases_Bool (same_id id other)) [
      | inl is ↦
          let here : is_some (made_at made id) ≡ true = ap (λ (i : ObjId). is_some (made_at made i)) (same_ids_are id other is) ∙ there in
          here ∙ sym (or_left (is_some (made_at made id)) (same_id id other) here)
      | inr isnt ↦ sym (ap (λ (b : Bool). is_some (made_at made id) || b) isnt ∙ or_none (is_some (made_at made id)))
    ]

once_at : (made : List Obj) (object : Obj) (id : ObjId) → is_some (made_at (made_once made object) id) ≡ (is_some (made_at made id) || same_id id object.id)
unfolding made_once
once_at made object id =
    elim (cases_Bool (is_some (made_at made object.id))) [
      | inl is ↦ rw is (there_already made id object.id is)
      | inr isnt ↦ rw isnt (ap is_some (at_push made object id) ∙ some_cond (made_at made id) (same_id id object.id) (length made))
    ]

moved_at : (made : List Obj) (moves_to : Option Obj) (id : ObjId) → is_some (made_at (option_map_or (made_once made) moves_to made) id) ≡ (is_some (made_at made id) || option_map_or (λ (object : Obj). same_id id object.id) moves_to false)
moved_at made None id = sym (or_none (is_some (made_at made id)))
moved_at made (Some object) id = once_at made object id

by_at : (all edges : List Edge) (made : List Obj) (id : ObjId) → is_some (made_at (made_by all edges made) id) ≡ (is_some (made_at made id) || list_any (λ edge. breaks all edge && moves_to_id id edge) edges)
unfolding made_by
by_at all [] made id = sym (or_none (is_some (made_at made id)))
by_at all (edge ∷ edges) made id =
    let rest : Bool = list_any (λ e. breaks all e && moves_to_id id e) edges in
    elim (cases_Bool (breaks all edge)) [
      | inl is ↦
          rw is (
          by_at all edges (option_map_or (made_once made) edge.moves_to made) id
          ∙ ap (λ (b : Bool). b || rest) (moved_at made edge.moves_to id)
          ∙ or_more (is_some (made_at made id)) (moves_to_id id edge) rest
          )
      | inr isnt ↦ rw isnt (by_at all edges made id)
    ]

none_at : (id : ObjId) → is_some (made_at [] id) ≡ false
unfolding made_at
none_at id = refl

pub made_where : (graph : Parts) (id : ObjId) → is_some (made_at (made_of graph) id) ≡ breaks_for graph.edges id
unfolding made_of
made_where graph id = by_at graph.edges graph.edges [] id ∙ ap (λ (b : Bool). b || breaks_for graph.edges id) (none_at id)

-- ---- what becomes of the edges

own : (a b : ℕ) (arcs : List Arc) → needs ((a, b) ∷ arcs) a b ≡ true
own a b arcs = or_left (nat_eq a a && nat_eq b b) (needs arcs a b) (and_from (nat_eq a a) (nat_eq b b) (eq-eqb a a refl) (eq-eqb b b refl))

later : (arc : Arc) (a b : ℕ) (arcs : List Arc) → needs arcs a b ≡ true → needs (arc ∷ arcs) a b ≡ true
later arc a b arcs h = or_right (nat_eq arc.0 a && nat_eq arc.1 b) (needs arcs a b) h

in_front : (xs ys : List Arc) (a b : ℕ) → needs xs a b ≡ true → needs (xs ++ ys) a b ≡ true
in_front xs ys a b h = list_any-append (λ (arc : Arc). nat_eq arc.0 a && nat_eq arc.1 b) xs ys ∙ or_left (needs xs a b) (needs ys a b) h

behind : (xs ys : List Arc) (a b : ℕ) → needs ys a b ≡ true → needs (xs ++ ys) a b ≡ true
behind xs ys a b h = list_any-append (λ (arc : Arc). nat_eq arc.0 a && nat_eq arc.1 b) xs ys ∙ or_right (needs xs a b) (needs ys a b) h

-- the arcs have all that an edge moves to
abbrev Has : ℕ → List Obj → List Arc → Edge → Type 0
Has count made arcs edge = (a b : ℕ) → needs (moved_arcs count made edge) a b ≡ true → needs arcs a b ≡ true

each_has : (count : ℕ) (made : List Obj) (edges : List Edge) (arcs : List Arc) → ((a b : ℕ) → needs (flat_map (moved_arcs count made) edges) a b ≡ true → needs arcs a b ≡ true) → AllByRecursion (Has count made arcs) edges
each_has count made [] arcs has = tt
each_has count made (edge ∷ edges) arcs has = (
  (λ a b h. has a b (in_front (moved_arcs count made edge) (flat_map (moved_arcs count made) edges) a b h)),
  each_has count made edges arcs (λ a b h. has a b (behind (moved_arcs count made edge) (flat_map (moved_arcs count made) edges) a b h)),
)

kept : (count : ℕ) (made : List Obj) (arcs : List Arc) (edge : Edge) → Has count made arcs edge → MatchOption (taker made edge) (needs arcs edge.from edge.to ≡ true) (λ at. (needs arcs (count + at) edge.to ≡ true) × (needs arcs (count + at) edge.from ≡ true))
unfolding moved_arcs
kept count made arcs edge has = by (taker made edge) has
  where
    by : (t : Option ℕ) → ((a b : ℕ) → needs (option_map_or (λ at. (count + at, edge.to) ∷ (count + at, edge.from) ∷ (if edge.stays then arc_of edge ∷ [] else [])) t (arc_of edge ∷ [])) a b ≡ true → needs arcs a b ≡ true) → MatchOption t (needs arcs edge.from edge.to ≡ true) (λ at. (needs arcs (count + at) edge.to ≡ true) × (needs arcs (count + at) edge.from ≡ true))
    by None h = h edge.from edge.to (own edge.from edge.to [])
    by (Some at) h =
        (h (count + at) edge.to (own (count + at) edge.to ((count + at, edge.from) ∷ (if edge.stays then arc_of edge ∷ [] else []))), h (count + at) edge.from (later (count + at, edge.to) (count + at) edge.from ((count + at, edge.from) ∷ (if edge.stays then arc_of edge ∷ [] else [])) (own (count + at) edge.from (if edge.stays then arc_of edge ∷ [] else []))))

each_kept : (graph : Parts) (edges : List Edge) → AllByRecursion (Has (length graph.objects) (made_of graph) (cut graph).arcs) edges → AllByRecursion (IsKept graph) edges
each_kept graph [] all = tt
each_kept graph (edge ∷ edges) all = (kept (length graph.objects) (made_of graph) (cut graph).arcs edge all.0, each_kept graph edges all.1)

all_moved : (graph : Parts) (a b : ℕ) → needs (flat_map (moved_arcs (length graph.objects) (made_of graph)) graph.edges) a b ≡ true → needs (cut graph).arcs a b ≡ true
unfolding cut
all_moved graph a b h = in_front (flat_map (moved_arcs (length graph.objects) (made_of graph)) graph.edges) (flat_map (bound_arcs graph.objects) (enumerate_from 0 (made_of graph))) a b h

pub edges_kept : (graph : Parts) → All (IsKept graph) graph.edges
edges_kept graph =
    All-from_recursion (IsKept graph) graph.edges (each_kept graph graph.edges (each_has (length graph.objects) (made_of graph) graph.edges (cut graph).arcs (all_moved graph)))

-- ---- what is made stands on its side of the data

before_all : (place : ℕ) (bounds : List ℕ) (arcs : List Arc) → ((a b : ℕ) → needs (map (λ bound. (bound, place)) bounds) a b ≡ true → needs arcs a b ≡ true) → AllByRecursion (λ bound. needs arcs bound place ≡ true) bounds
before_all place [] arcs has = tt
before_all place (bound ∷ bounds) arcs has =
    (has bound place (own bound place (map (λ q. (q, place)) bounds)), before_all place bounds arcs (λ a b h. has a b (later (bound, place) a b (map (λ q. (q, place)) bounds) h)))

behind_all : (place : ℕ) (bounds : List ℕ) (arcs : List Arc) → ((a b : ℕ) → needs (map (λ bound. (place, bound)) bounds) a b ≡ true → needs arcs a b ≡ true) → AllByRecursion (λ bound. needs arcs place bound ≡ true) bounds
behind_all place [] arcs has = tt
behind_all place (bound ∷ bounds) arcs has =
    (has place bound (own place bound (map (λ q. (place, q)) bounds)), behind_all place bounds arcs (λ a b h. has a b (later (place, bound) a b (map (λ q. (place, q)) bounds) h)))

bounds_in : (objects : List Obj) (n k : ℕ) (made : List Obj) (object : Obj) → slice_get made k ≡ Some object → (a b : ℕ) → needs (bound_arcs objects (n + k, object)) a b ≡ true → needs (flat_map (bound_arcs objects) (enumerate_from n made)) a b ≡ true
bounds_in objects n k [] object is a b h = absurd cc
bounds_in objects n zero (o ∷ made) object is a b h =
    let same : o ≡ object = cc in
    let at : n + 0 ≡ n = omega arith in
    in_front (bound_arcs objects (n, o)) (flat_map (bound_arcs objects) (enumerate_from (n + 1) made)) a b
    (subst (λ (x : Obj). needs (bound_arcs objects (n, x)) a b ≡ true) (sym same) (subst (λ (m : ℕ). needs (bound_arcs objects (m, object)) a b ≡ true) at h))
bounds_in objects n (suc k) (o ∷ made) object is a b h =
    let at : n + suc k ≡ n + 1 + k = omega arith in
    behind (bound_arcs objects (n, o)) (flat_map (bound_arcs objects) (enumerate_from (n + 1) made)) a b
    (bounds_in objects (n + 1) k made object is a b (subst (λ (m : ℕ). needs (bound_arcs objects (m, object)) a b ≡ true) at h))

all_bounds : (graph : Parts) (at : ℕ) (object : Obj) → slice_get (made_of graph) at ≡ Some object → (a b : ℕ) → needs (bound_arcs graph.objects (at, object)) a b ≡ true → needs (cut graph).arcs a b ≡ true
unfolding cut
all_bounds graph at object is a b h =
    let zero' : at ≡ 0 + at = omega arith in
    behind (flat_map (moved_arcs (length graph.objects) (made_of graph)) graph.edges) (flat_map (bound_arcs graph.objects) (enumerate_from 0 (made_of graph))) a b
    (bounds_in graph.objects 0 at (made_of graph) object is a b (subst (λ (m : ℕ). needs (bound_arcs graph.objects (m, object)) a b ≡ true) zero' h))

default_bound : (objects : List Obj) (at : ℕ) (object : Obj) → is_default object.kind ≡ true → (a b : ℕ) → needs (map (λ bound. (bound, length objects + at)) (places_of is_pre_data objects)) a b ≡ true → needs (bound_arcs objects (at, object)) a b ≡ true
unfolding bound_arcs
default_bound objects at object is a b h =
    let rest : List Arc = if is_rule object.kind then map (λ bound. (length objects + at, bound)) (places_of is_post_data objects) else [] in
    let front : List Arc = map (λ bound. (bound, length objects + at)) (places_of is_pre_data objects) in
    subst (λ (c : Bool). needs ((if c then front else []) ++ rest) a b ≡ true) (sym is) (in_front front rest a b h)

rule_bound : (objects : List Obj) (at : ℕ) (object : Obj) → is_rule object.kind ≡ true → (a b : ℕ) → needs (map (λ bound. (length objects + at, bound)) (places_of is_post_data objects)) a b ≡ true → needs (bound_arcs objects (at, object)) a b ≡ true
unfolding bound_arcs
rule_bound objects at object is a b h =
    let front : List Arc = if is_default object.kind then map (λ bound. (bound, length objects + at)) (places_of is_pre_data objects) else [] in
    let rest : List Arc = map (λ bound. (length objects + at, bound)) (places_of is_post_data objects) in
    subst (λ (c : Bool). needs (front ++ (if c then rest else [])) a b ≡ true) (sym is) (behind front rest a b h)

pub on_its_side : (graph : Parts) (at : ℕ) (object : Obj) → slice_get (made_of graph) at ≡ Some object → IsOnItsSide graph at object
on_its_side graph at object is = record {
  before = λ kind.
      All-from_recursion (λ bound. needs (cut graph).arcs bound (length graph.objects + at) ≡ true) (places_of is_pre_data graph.objects)
      (before_all (length graph.objects + at) (places_of is_pre_data graph.objects) (cut graph).arcs (λ a b h. all_bounds graph at object is a b (default_bound graph.objects at object kind a b h)));
  behind = λ kind.
      All-from_recursion (λ bound. needs (cut graph).arcs (length graph.objects + at) bound ≡ true) (places_of is_post_data graph.objects)
      (behind_all (length graph.objects + at) (places_of is_post_data graph.objects) (cut graph).arcs (λ a b h. all_bounds graph at object is a b (rule_bound graph.objects at object kind a b h)));
}
