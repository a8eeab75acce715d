-- What an order keeps, and what a loop is.
use Rattle.std.proofs.Common.{◌≡◌, ◌↔◌, ℕ, zero, suc, ◌+◌, ◌<◌, ◌≤◌, Bool, true, false, true≢false, List, [], ◌∷◌, length, map, get_or, Option, Some, Ok, Err, inl, inr, refl, sym, ap, subst, ◌∙◌, arith}
use Rattle.std.specs.Prelude.{◌&&◌, ◌||◌, nat_eq, nat_le, filter_map, slice_get}
use Rattle.std.specs.List.{All, AllByRecursion, IsDistinct, filter, range_with_len}
use Rattle.std.proofs.lemmas.Bool.{cases_Bool, le-leb, leb-true, eqb-true, eq-eqb, eqb-false, and_parts, and_from, or_left, or_right}
use Rattle.std.proofs.lemmas.List.{get_or-map, length-map}
use Rattle.std.proofs.lemmas.List.Elements.{recursion_from_All, All-from_recursion}
use Rattle.std.proofs.lemmas.Option.{slice_get-get_or}
use Rattle.graph_parts.specs.declared.object.Obj.{Obj}
use Rattle.graph_parts.specs.declared.object.ObjId.{ObjId}
use Rattle.graph_parts.specs.declared.graph.Edge.{Edge}
use Rattle.graph_parts.specs.Parts.{Parts}
use Rattle.graph_walks.specs.Arcs.{Arc, needs, is_in, AreWithin}
use Rattle.graph_walks.specs.Filling.{order_of}
use Rattle.graph_walks.specs.Leading.{IsClosed, Leads}
use Rattle.graph_walks.specs.Reaching.{reaches, on_cycle}
use Rattle.dep_sort.specs.Cut.{CutGraph, arc_of, is_breakable, breaks, breaks_if, cut}
use Rattle.dep_sort.specs.FirstOrder.{first_places, stands_at, renumbered}
use Rattle.dep_sort.specs.Ordering.{Sorted, final_places, depends_of, sorted, loop_of, due_if, due}
use Rattle.dep_sort.specs.Sound.{IsOrder}
use Rattle.dep_sort.proofs.Distinct.{first_distinct, picked_distinct, picked_within, whole_in, stands_there, stands_back}
use Rattle.dep_sort.proofs.Sorting.{first_count, first_within}

-- ---- arcs in lists

pub arc_low : (bound : ℕ) (arcs : List Arc) (a b : ℕ) → AllByRecursion (λ (arc : Arc). (arc.0 < bound) × (arc.1 < bound)) arcs → needs arcs a b ≡ true → (a < bound) × (b < bound)
arc_low bound [] a b all h = absurd (true≢false (sym h))
arc_low bound (arc ∷ arcs) a b all h =
    elim (cases_Bool (nat_eq arc.0 a && nat_eq arc.1 b)) [
      | inl here ↦
          let ends = and_parts (nat_eq arc.0 a) (nat_eq arc.1 b) here in
          (subst (λ (n : ℕ). n < bound) (eqb-true arc.0 a ends.0) all.0.0, subst (λ (n : ℕ). n < bound) (eqb-true arc.1 b ends.1) all.0.1)
      | inr other ↦ arc_low bound arcs a b all.1 (sym (ap (λ (c : Bool). c || needs arcs a b) other) ∙ h)
    ]

-- ---- which of the two is due

ok_parts : (test : Bool) (graph : CutGraph) (order : Sorted) → due_if test graph ≡ Ok order → (test ≡ true) × (sorted graph ≡ order)
unfolding due_if
ok_parts true graph order is = (refl, cc)
ok_parts false graph order is = absurd cc

err_parts : (test : Bool) (graph : CutGraph) (path : List ObjId) → due_if test graph ≡ Err path → (test ≡ false) × (loop_of graph ≡ path)
unfolding due_if
err_parts true graph path is = absurd cc
err_parts false graph path is = (refl, cc)

pub order_due : (graph : Parts) (order : Sorted) → due graph ≡ Ok order → (length (final_places (cut graph)) ≡ length (cut graph).objects) × (sorted (cut graph) ≡ order)
unfolding due
order_due graph order is =
    let parts = ok_parts (nat_eq (length (final_places (cut graph))) (length (cut graph).objects)) (cut graph) order is in
    (eqb-true (length (final_places (cut graph))) (length (cut graph).objects) parts.0, parts.1)

pub loop_due : (graph : Parts) (path : List ObjId) → due graph ≡ Err path → (length (final_places (cut graph)) ≡ length (cut graph).objects → ⊥) × (loop_of (cut graph) ≡ path)
unfolding due
loop_due graph path is =
    let parts = err_parts (nat_eq (length (final_places (cut graph))) (length (cut graph).objects)) (cut graph) path is in
    (eqb-false (length (final_places (cut graph))) (length (cut graph).objects) parts.0, parts.1)

-- ---- objects at places

pub picked_count : {Y : Type 0} (h : ℕ → Option Y) (bound : ℕ) (places : List ℕ) → ((place : ℕ) → place < bound → (y : Y) × (h place ≡ Some y)) → AllByRecursion (λ place. place < bound) places → length (filter_map h places) ≡ length places
picked_count h bound [] some all = refl
picked_count h bound (place ∷ places) some all =
    let here = some place all.0 in
    let more : length (filter_map h places) ≡ length places = picked_count h bound places some all.1 in
    rw here.1 (omega arith)

-- ---- what is needed goes along with new numbers

needs_map : (f : ℕ → ℕ) (arcs : List Arc) (a b : ℕ) → needs arcs a b ≡ true → needs (map (λ (arc : Arc). (f arc.0, f arc.1)) arcs) (f a) (f b) ≡ true
needs_map f [] a b h = h
needs_map f (arc ∷ arcs) a b h =
    elim (cases_Bool (nat_eq arc.0 a && nat_eq arc.1 b)) [
      | inl is ↦
          let parts = and_parts (nat_eq arc.0 a) (nat_eq arc.1 b) is in
          or_left (nat_eq (f arc.0) (f a) && nat_eq (f arc.1) (f b)) (needs (map (λ (e : Arc). (f e.0, f e.1)) arcs) (f a) (f b))
          (and_from (nat_eq (f arc.0) (f a)) (nat_eq (f arc.1) (f b)) (eq-eqb (f arc.0) (f a) (ap f (eqb-true arc.0 a parts.0))) (eq-eqb (f arc.1) (f b) (ap f (eqb-true arc.1 b parts.1))))
      | inr isnt ↦
          or_right (nat_eq (f arc.0) (f a) && nat_eq (f arc.1) (f b)) (needs (map (λ (e : Arc). (f e.0, f e.1)) arcs) (f a) (f b))
          (needs_map f arcs a b (sym (ap (λ (c : Bool). c || needs arcs a b) isnt) ∙ h))
    ]

pub needs_stand : (places : List ℕ) (arcs : List Arc) (a b : ℕ) → needs arcs a b ≡ true → needs (renumbered places arcs) (stands_at places a) (stands_at places b) ≡ true
unfolding renumbered
needs_stand places arcs a b h = needs_map (stands_at places) arcs a b h

-- ---- an order

-- that each place of an order of places stands behind those that it needs, and none stands twice
pub record KeepsNeeds : Type 0 where
  pub behind : (count : ℕ) (arcs : List Arc) (i j : ℕ) → i < length (order_of count arcs) → j < length (order_of count arcs) → needs arcs (get_or (order_of count arcs) i 0) (get_or (order_of count arcs) j 0) ≡ true → j < i
  pub distinct : (count : ℕ) (arcs : List Arc) → IsDistinct nat_eq (order_of count arcs)
  pub among : (count : ℕ) (arcs : List Arc) (place : ℕ) → is_in place (order_of count arcs) ≡ true → place < count
  pub whole : (count : ℕ) (arcs : List Arc) → AreWithin count arcs → ((a b : ℕ) → needs arcs a b ≡ true → on_cycle arcs (a, b) ≡ false) → (place : ℕ) → place < count → is_in place (order_of count arcs) ≡ true

each_in : (bound : ℕ) (places : List ℕ) → ((place : ℕ) → is_in place places ≡ true → place < bound) → AllByRecursion (λ place. place < bound) places
each_in bound [] low = tt
each_in bound (place ∷ places) low =
    (low place (or_left (nat_eq place place) (is_in place places) (eq-eqb place place refl)), each_in bound places (λ q h. low q (or_right (nat_eq q place) (is_in q places) h)))

pub order_low : KeepsNeeds → (count : ℕ) (arcs : List Arc) → All (λ place. place < count) (order_of count arcs)
order_low keeps count arcs = All-from_recursion (λ place. place < count) (order_of count arcs) (each_in count (order_of count arcs) (keeps.among count arcs))

abbrev by_first : CutGraph → List ℕ
by_first graph = order_of (length graph.objects) (renumbered (first_places graph.objects) graph.arcs)

abbrev at_first : CutGraph → ℕ → ℕ
at_first graph at = get_or (first_places graph.objects) at 0

pub final_are : (graph : CutGraph) → final_places graph ≡ map (at_first graph) (by_first graph)
unfolding final_places
final_are graph = refl

first_low : KeepsNeeds → (graph : CutGraph) → All (λ at. at < length (first_places graph.objects)) (by_first graph)
first_low keeps graph = subst (λ (k : ℕ). All (λ at. at < k) (by_first graph)) (sym (first_count graph.objects)) (order_low keeps (length graph.objects) (renumbered (first_places graph.objects) graph.arcs))

final_low : KeepsNeeds → (graph : CutGraph) → All (λ place. place < length graph.objects) (final_places graph)
final_low keeps graph =
    subst (All (λ place. place < length graph.objects)) (sym (final_are graph)) (picked_within (length graph.objects) (first_places graph.objects) (by_first graph) (first_within graph.objects) (first_low keeps graph))

final_once : KeepsNeeds → (graph : CutGraph) → IsDistinct nat_eq (final_places graph)
final_once keeps graph =
    subst (IsDistinct nat_eq) (sym (final_are graph))
    (picked_distinct (first_places graph.objects) (by_first graph) (first_distinct graph.objects) (keeps.distinct (length graph.objects) (renumbered (first_places graph.objects) graph.arcs)) (first_low keeps graph))

final_behind : KeepsNeeds → (graph : CutGraph) (i j : ℕ) → i < length (final_places graph) → j < length (final_places graph) → needs graph.arcs (get_or (final_places graph) i 0) (get_or (final_places graph) j 0) ≡ true → j < i
final_behind keeps graph i j low_i low_j need =
    let order : List ℕ = by_first graph in
    let first : List ℕ = first_places graph.objects in
    let long : length (final_places graph) ≡ length order = ap length (final_are graph) ∙ length-map order (at_first graph) in
    let at_i : get_or (final_places graph) i 0 ≡ get_or first (get_or order i 0) 0 = ap (λ (l : List ℕ). get_or l i 0) (final_are graph) ∙ get_or-map (at_first graph) order i 0 0 (omega arith) in
    let at_j : get_or (final_places graph) j 0 ≡ get_or first (get_or order j 0) 0 = ap (λ (l : List ℕ). get_or l j 0) (final_are graph) ∙ get_or-map (at_first graph) order j 0 0 (omega arith) in
    let stands_i : stands_at first (get_or (final_places graph) i 0) ≡ get_or order i 0 = ap (stands_at first) at_i ∙ stands_back first (get_or order i 0) (first_distinct graph.objects) (first_low keeps graph i 0 (omega arith)) in
    let stands_j : stands_at first (get_or (final_places graph) j 0) ≡ get_or order j 0 = ap (stands_at first) at_j ∙ stands_back first (get_or order j 0) (first_distinct graph.objects) (first_low keeps graph j 0 (omega arith)) in
    let there : needs (renumbered first graph.arcs) (stands_at first (get_or (final_places graph) i 0)) (stands_at first (get_or (final_places graph) j 0)) ≡ true = needs_stand first graph.arcs (get_or (final_places graph) i 0) (get_or (final_places graph) j 0) need in
    keeps.behind (length graph.objects) (renumbered first graph.arcs) i j (omega arith) (omega arith)
    (subst (λ (k : ℕ). needs (renumbered first graph.arcs) k (get_or order j 0) ≡ true) stands_i
    (subst (λ (k : ℕ). needs (renumbered first graph.arcs) (stands_at first (get_or (final_places graph) i 0)) k ≡ true) stands_j there))

pub some_object : (objects : List Obj) (place : ℕ) → place < length objects → (o : Obj) × (slice_get objects place ≡ Some o)
some_object [] place low = absurd (omega arith)
some_object (o ∷ objects) place low = (get_or (o ∷ objects) place o, slice_get-get_or (o ∷ objects) place o low)

pub is_order : KeepsNeeds → (graph : CutGraph) → length (final_places graph) ≡ length graph.objects → IsOrder graph (sorted graph)
unfolding sorted depends_of
is_order keeps graph whole =
    let places : List ℕ = final_places graph in
    let low : All (λ place. place < length graph.objects) places = final_low keeps graph in
    record {
      places = places;
      objects_are = refl;
      count = picked_count (slice_get graph.objects) (length graph.objects) places (some_object graph.objects) (recursion_from_All (λ place. place < length graph.objects) places low) ∙ whole;
      within = low;
      once = final_once keeps graph;
      whole = λ place less. whole_in places (final_once keeps graph) (subst (λ (k : ℕ). All (λ p. p < k) places) (sym whole) low) place (omega arith);
      behind = final_behind keeps graph;
      depends_are = λ i less. get_or-map (λ place. filter (λ at. needs graph.arcs place (get_or places at 0)) (range_with_len 0 (length places))) places i 0 [] less;
    }

-- ---- what stands before

kept_low : (bound : ℕ) (p : ℕ → Bool) (xs : List ℕ) → AllByRecursion (λ x. p x ≡ true → x < bound) xs → AllByRecursion (λ x. x < bound) (filter p xs)
kept_low bound p [] all = tt
kept_low bound p (x ∷ xs) all =
    elim (cases_Bool (p x)) [ inl is ↦ rw is (all.0 is, kept_low bound p xs all.1) | inr isnt ↦ rw isnt (kept_low bound p xs all.1) ]

each_range : (P : ℕ → Type 0) (a n bound : ℕ) → a + n ≤ bound → ((x : ℕ) → x < bound → P x) → AllByRecursion P (range_with_len a n)
each_range P a zero bound le all = tt
each_range P a (suc n) bound le all = (all a (omega arith), each_range P (a + 1) n bound (omega arith) all)

picked_long : (graph : CutGraph) (order : Sorted) (is : IsOrder graph order) → length is.places ≡ length graph.objects
picked_long graph order is =
    sym (picked_count (slice_get graph.objects) (length graph.objects) is.places (some_object graph.objects) (recursion_from_All (λ place. place < length graph.objects) is.places is.within))
    ∙ sym (ap length is.objects_are)
    ∙ is.count

pub needs_before : (graph : CutGraph) (order : Sorted) → IsOrder graph order → (i : ℕ) → i < length order.objects → All (λ at. at < i) (get_or order.depends i [])
needs_before graph order is i low =
    let places : List ℕ = is.places in
    let long : length places ≡ length graph.objects = picked_long graph order is in
    let count : length order.objects ≡ length graph.objects = is.count in
    let less : i < length places = omega arith in
    subst (All (λ at. at < i)) (sym (is.depends_are i less))
    (All-from_recursion (λ at. at < i) (filter (λ j. needs graph.arcs (get_or places i 0) (get_or places j 0)) (range_with_len 0 (length places)))
    (kept_low i (λ j. needs graph.arcs (get_or places i 0) (get_or places j 0)) (range_with_len 0 (length places))
    (each_range (λ j. needs graph.arcs (get_or places i 0) (get_or places j 0) ≡ true → j < i) 0 (length places) (length places) (omega arith) (λ j small need. is.behind i j less small need))))

-- ---- an edge that breaks

pub breaks_where : ((arcs : List Arc) (a b : ℕ) → reaches arcs a b ≡ true → Leads arcs a b) → ((arcs : List Arc) (a b : ℕ) → Leads arcs a b → reaches arcs a b ≡ true)
    → (edges : List Edge) (edge : Edge) → (breaks edges edge ≡ true) ↔ ((is_breakable edge ≡ true) × Leads (map arc_of edges) edge.to edge.from)
unfolding breaks breaks_if on_cycle
breaks_where found all edges edge =
    elim (cases_Bool (is_breakable edge)) [
      | inl is ↦ rw is ((λ back. (refl, found (map arc_of edges) edge.to edge.from back)), (λ both. all (map arc_of edges) edge.to edge.from both.1))
      | inr isnt ↦ rw isnt ((λ back. absurd (true≢false (sym back))), (λ both. absurd (true≢false (sym both.0))))
    ]

-- ---- an order has no cycle

-- how many stand up to a place that needs another is no fewer than up to that one
pub no_cycle : ((arcs : List Arc) (a b : ℕ) → reaches arcs a b ≡ true → Leads arcs a b) → (graph : CutGraph) (order : Sorted) → IsOrder graph order → AreWithin (length graph.objects) graph.arcs → (a b : ℕ) → needs graph.arcs a b ≡ true → on_cycle graph.arcs (a, b) ≡ false
unfolding on_cycle
no_cycle found graph order is within a b need =
    elim (cases_Bool (reaches graph.arcs b a)) [
      | inr none ↦ none
      | inl back ↦
          let start = low_of a b need in
          let at_most : nat_le (stands_at is.places a) (stands_at is.places b) ≡ true = (found graph.arcs b a back).into (λ x. nat_le (stands_at is.places x) (stands_at is.places b)) closed (le-leb (stands_at is.places b) (stands_at is.places b) (omega arith)) in
          let less : stands_at is.places b < stands_at is.places a = before a b need in
          let le : stands_at is.places a ≤ stands_at is.places b = leb-true (stands_at is.places a) (stands_at is.places b) at_most in
          absurd (omega arith)
    ]
  where
    low_of : (x y : ℕ) → needs graph.arcs x y ≡ true → (x < length graph.objects) × (y < length graph.objects)
    low_of x y h = arc_low (length graph.objects) graph.arcs x y (recursion_from_All (λ (arc : Arc). (arc.0 < length graph.objects) × (arc.1 < length graph.objects)) graph.arcs within) h

    before : (x y : ℕ) → needs graph.arcs x y ≡ true → stands_at is.places y < stands_at is.places x
    before x y h =
        let low = low_of x y h in
        let at_x = stands_there is.places x (is.whole x low.0) in
        let at_y = stands_there is.places y (is.whole y low.1) in
        is.behind (stands_at is.places x) (stands_at is.places y) at_x.0 at_y.0
        (subst (λ (k : ℕ). needs graph.arcs k (get_or is.places (stands_at is.places y) 0) ≡ true) (sym at_x.1) (subst (λ (k : ℕ). needs graph.arcs x k ≡ true) (sym at_y.1) h))

    closed : IsClosed graph.arcs (λ x. nat_le (stands_at is.places x) (stands_at is.places b))
    closed x y h s =
        let le : stands_at is.places x ≤ stands_at is.places b = leb-true (stands_at is.places x) (stands_at is.places b) s in
        let less : stands_at is.places y < stands_at is.places x = before x y h in
        le-leb (stands_at is.places y) (stands_at is.places b) (omega arith)
