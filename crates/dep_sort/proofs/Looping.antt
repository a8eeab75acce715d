-- The loop that is told where some objects need each other.
use Rattle.std.proofs.Common.{◌≡◌, ℕ, ◌+◌, ◌-◌, ◌<◌, ◌≤◌, Bool, true, false, true≢false, List, [], ◌∷◌, length, map, get_or, Some, inl, inr, refl, sym, ap, subst, ◌∙◌, arith}
use Rattle.std.specs.Prelude.{◌&&◌, ◌||◌, nat_eq, option_map, slice_get}
use Rattle.std.specs.List.{All, AllByRecursion, list_any}
use Rattle.std.proofs.lemmas.Bool.{cases_Bool, eqb-true, eq-eqb, and_parts, and_from, or_left, or_right}
use Rattle.std.proofs.lemmas.List.{get_or-map, length-map}
use Rattle.std.proofs.lemmas.List.Elements.{recursion_from_All}
use Rattle.std.proofs.lemmas.Map.Steps.{length-le_from_distinct_below, le-length_from_below}
use Rattle.graph_parts.specs.declared.object.Obj.{Obj}
use Rattle.graph_parts.specs.declared.object.ObjId.{ObjId}
use Rattle.graph_walks.specs.Arcs.{Arc, needs, AreWithin}
use Rattle.graph_walks.specs.Filling.{order_of}
use Rattle.graph_walks.specs.Leading.{Leads}
use Rattle.graph_walks.specs.Reaching.{reaches, on_cycle}
use Rattle.graph_walks.specs.Telling.{told_cycle, IsRound}
use Rattle.dep_sort.specs.Cut.{CutGraph}
use Rattle.dep_sort.specs.FirstOrder.{first_places, id_places, stands_at, renumbered}
use Rattle.dep_sort.specs.Ordering.{final_places, told_places, loop_of}
use Rattle.dep_sort.specs.Sound.{IsLoop}
use Rattle.dep_sort.proofs.Distinct.{first_distinct, id_distinct, picked_within, needs_renumbered}
use Rattle.dep_sort.proofs.Keeping.{KeepsNeeds, final_are, needs_stand, picked_count, some_object, arc_low}
use Rattle.dep_sort.proofs.Ranks.{renumbered_within}
use Rattle.dep_sort.proofs.Sorting.{first_count, first_within, id_count, id_within}

-- what is found in rounds is what is led to
pub record FindsLed : Type 0 where
  pub found : (arcs : List Arc) (a b : ℕ) → reaches arcs a b ≡ true → Leads arcs a b
  pub all : (arcs : List Arc) (a b : ℕ) → Leads arcs a b → reaches arcs a b ≡ true

-- a cycle that is told goes along arcs and ends where it begins, and one is told where there is one
pub record TellsCycles : Type 0 where
  pub steps : (count : ℕ) (arcs : List Arc) (i : ℕ) → i + 1 < length (told_cycle count arcs) → needs arcs (get_or (told_cycle count arcs) i 0) (get_or (told_cycle count arcs) (i + 1) 0) ≡ true
  pub round : (count : ℕ) (arcs : List Arc) → AreWithin count arcs → IsRound (told_cycle count arcs)
  pub told : (count : ℕ) (arcs : List Arc) (a b : ℕ) → AreWithin count arcs → needs arcs a b ≡ true → on_cycle arcs (a, b) ≡ true → 1 < length (told_cycle count arcs)
  pub within : (count : ℕ) (arcs : List Arc) → All (λ place. place < count) (told_cycle count arcs)

-- ---- arcs in lists

any_arc : (p : ℕ → ℕ → Bool) (arcs : List Arc) → list_any (λ arc. p arc.0 arc.1) arcs ≡ true → (a b : ℕ) × (p a b ≡ true) × (needs arcs a b ≡ true)
any_arc p [] h = absurd (true≢false (sym h))
any_arc p (arc ∷ arcs) h =
    elim (cases_Bool (p arc.0 arc.1)) [
      | inl is ↦ (arc.0, arc.1, is, or_left (nat_eq arc.0 arc.0 && nat_eq arc.1 arc.1) (needs arcs arc.0 arc.1) (and_from (nat_eq arc.0 arc.0) (nat_eq arc.1 arc.1) (eq-eqb arc.0 arc.0 refl) (eq-eqb arc.1 arc.1 refl)))
      | inr isnt ↦
          let found = any_arc p arcs (sym (ap (λ (c : Bool). c || list_any (λ e. p e.0 e.1) arcs) isnt) ∙ h) in
          (found.0, found.1, found.2, or_right (nat_eq arc.0 found.0 && nat_eq arc.1 found.1) (needs arcs found.0 found.1) found.3)
    ]

arc_fails : (p : ℕ → ℕ → Bool) (arcs : List Arc) (a b : ℕ) → list_any (λ arc. p arc.0 arc.1) arcs ≡ false → needs arcs a b ≡ true → p a b ≡ false
arc_fails p [] a b none h = absurd (true≢false (sym h))
arc_fails p (arc ∷ arcs) a b none h =
    elim (cases_Bool (p arc.0 arc.1)) [
      | inl is ↦ absurd (true≢false (sym (or_left (p arc.0 arc.1) (list_any (λ e. p e.0 e.1) arcs) is) ∙ none))
      | inr isnt ↦
          elim (cases_Bool (nat_eq arc.0 a && nat_eq arc.1 b)) [
            | inl here ↦
                let ends = and_parts (nat_eq arc.0 a) (nat_eq arc.1 b) here in
                subst (λ (n : ℕ). p n b ≡ false) (eqb-true arc.0 a ends.0) (subst (λ (n : ℕ). p arc.0 n ≡ false) (eqb-true arc.1 b ends.1) isnt)
            | inr other ↦
                arc_fails p arcs a b (sym (ap (λ (c : Bool). c || list_any (λ e. p e.0 e.1) arcs) isnt) ∙ none) (sym (ap (λ (c : Bool). c || needs arcs a b) other) ∙ h)
          ]
    ]

-- ---- an order that ends early leaves a cycle

order_full : KeepsNeeds → (count : ℕ) (arcs : List Arc) → AreWithin count arcs → ((a b : ℕ) → needs arcs a b ≡ true → on_cycle arcs (a, b) ≡ false) → length (order_of count arcs) ≡ count
order_full keeps count arcs within none =
    let few : length (order_of count arcs) ≤ count = length-le_from_distinct_below (order_of count arcs) count (keeps.distinct count arcs) (keeps.among count arcs) in
    let many : count ≤ length (order_of count arcs) = le-length_from_below (order_of count arcs) count (keeps.whole count arcs within none) in
    omega arith

cycle_left : KeepsNeeds → (count : ℕ) (arcs : List Arc) → AreWithin count arcs → (length (order_of count arcs) ≡ count → ⊥) → (a b : ℕ) × (on_cycle arcs (a, b) ≡ true) × (needs arcs a b ≡ true)
cycle_left keeps count arcs within short =
    elim (cases_Bool (list_any (λ (arc : Arc). on_cycle arcs (arc.0, arc.1)) arcs)) [
      | inl some ↦ any_arc (λ a b. on_cycle arcs (a, b)) arcs some
      | inr none ↦ absurd (short (order_full keeps count arcs within (λ a b need. arc_fails (λ x y. on_cycle arcs (x, y)) arcs a b none need)))
    ]

-- ---- a cycle stays one under other numbers

leads_map : (f : ℕ → ℕ) (arcs others : List Arc) → ((a b : ℕ) → needs arcs a b ≡ true → needs others (f a) (f b) ≡ true) → (a b : ℕ) → Leads arcs a b → Leads others (f a) (f b)
leads_map f arcs others moves a b leads = record { into = λ set closed h. leads.into (λ x. set (f x)) (λ x y need s. closed (f x) (f y) (moves x y need) s) h }

cycle_map : FindsLed → (f : ℕ → ℕ) (arcs others : List Arc) → ((a b : ℕ) → needs arcs a b ≡ true → needs others (f a) (f b) ≡ true) → (a b : ℕ) → on_cycle arcs (a, b) ≡ true → on_cycle others (f a, f b) ≡ true
unfolding on_cycle
cycle_map finds f arcs others moves a b is = finds.all others (f b) (f a) (leads_map f arcs others moves b a (finds.found arcs b a is))

-- ---- the loop

abbrev by_id : CutGraph → List ℕ
by_id graph = told_cycle (length graph.objects) (renumbered (id_places graph.objects) graph.arcs)

told_are : (graph : CutGraph) → told_places graph ≡ map (λ at. get_or (id_places graph.objects) at 0) (by_id graph)
unfolding told_places
told_are graph = refl

abbrev Among : ℕ → List Arc → Type 0
Among bound arcs = AllByRecursion (λ (arc : Arc). (arc.0 < bound) × (arc.1 < bound)) arcs

told_long : KeepsNeeds → FindsLed → TellsCycles → (graph : CutGraph) → AreWithin (length graph.objects) graph.arcs → (length (final_places graph) ≡ length graph.objects → ⊥) → 1 < length (by_id graph)
told_long keeps finds tells graph within short =
    let objects : List Obj = graph.objects in
    let first : List ℕ = first_places objects in
    let ids : List ℕ = id_places objects in
    let by_first : List Arc = renumbered first graph.arcs in
    let by_ids : List Arc = renumbered ids graph.arcs in
    let at : ℕ → ℕ = λ k. get_or first k 0 in
    let there : ℕ → ℕ = λ k. stands_at ids (at k) in
    let among : AreWithin (length first) graph.arcs = subst (λ (k : ℕ). AreWithin k graph.arcs) (sym (first_count objects)) within in
    let low : AreWithin (length first) by_first = renumbered_within first graph.arcs among in
    let first_in : AreWithin (length objects) by_first = subst (λ (k : ℕ). AreWithin k by_first) (first_count objects) low in
    let ids_in : AreWithin (length objects) by_ids = subst (λ (k : ℕ). AreWithin k by_ids) (id_count objects) (renumbered_within ids graph.arcs (subst (λ (k : ℕ). AreWithin k graph.arcs) (sym (id_count objects)) within)) in
    let long : length (final_places graph) ≡ length (order_of (length objects) by_first) = ap length (final_are graph) ∙ length-map (order_of (length objects) by_first) at in
    let some = cycle_left keeps (length objects) by_first first_in (λ full. short (long ∙ full)) in
    let all : All (λ place. place < length first) first = subst (λ (k : ℕ). All (λ place. place < k) first) (sym (first_count objects)) (first_within objects) in
    let moves : (a b : ℕ) → needs by_first a b ≡ true → needs by_ids (there a) (there b) ≡ true = λ a b need.
    let small = arc_low (length first) by_first a b (recursion_from_All (λ (arc : Arc). (arc.0 < length first) × (arc.1 < length first)) by_first low) need in
    needs_stand ids graph.arcs (at a) (at b) (sym (needs_renumbered first (first_distinct objects) all graph.arcs among a b small.0 small.1) ∙ need) in
    tells.told (length objects) by_ids (there some.0) (there some.1) ids_in (moves some.0 some.1 some.3) (cycle_map finds there by_first by_ids moves some.0 some.1 some.2)

some_id : (objects : List Obj) (place : ℕ) → place < length objects → (id : ObjId) × (option_map (λ (o : Obj). o.id) (slice_get objects place) ≡ Some id)
some_id objects place low = let o = some_object objects place low in (o.0.id, ap (option_map (λ (o' : Obj). o'.id)) o.1)

pub is_loop : KeepsNeeds → FindsLed → TellsCycles → (graph : CutGraph) → AreWithin (length graph.objects) graph.arcs → (length (final_places graph) ≡ length graph.objects → ⊥) → IsLoop graph (loop_of graph)
unfolding loop_of
is_loop keeps finds tells graph within short =
    let objects : List Obj = graph.objects in
    let ids : List ℕ = id_places objects in
    let by_ids : List Arc = renumbered ids graph.arcs in
    let told : List ℕ = by_id graph in
    let at : ℕ → ℕ = λ k. get_or ids k 0 in
    let many : 1 < length told = told_long keeps finds tells graph within short in
    let long : length (told_places graph) ≡ length told = ap length (told_are graph) ∙ length-map told at in
    let count : length ids ≡ length objects = id_count objects in
    let among : AreWithin (length ids) graph.arcs = subst (λ (k : ℕ). AreWithin k graph.arcs) (sym count) within in
    let ids_in : AreWithin (length objects) by_ids = subst (λ (k : ℕ). AreWithin k by_ids) count (renumbered_within ids graph.arcs among) in
    let all : All (λ place. place < length ids) ids = subst (λ (k : ℕ). All (λ place. place < k) ids) (sym count) (id_within objects) in
    let told_low : All (λ k. k < length ids) told = subst (λ (n : ℕ). All (λ k. k < n) told) (sym count) (tells.within (length objects) by_ids) in
    let low : All (λ place. place < length objects) (told_places graph) = subst (All (λ place. place < length objects)) (sym (told_are graph)) (picked_within (length objects) ids told (id_within objects) told_low) in
    let place_at : (i : ℕ) → i < length told → get_or (told_places graph) i 0 ≡ at (get_or told i 0) = λ i less. ap (λ (l : List ℕ). get_or l i 0) (told_are graph) ∙ get_or-map at told i 0 0 less in
    record {
      places = told_places graph;
      path_is = refl;
      count = picked_count (λ place. option_map (λ (o : Obj). o.id) (slice_get objects place)) (length objects) (told_places graph) (some_id objects) (recursion_from_All (λ place. place < length objects) (told_places graph) low);
      within = low;
      long = omega arith;
      steps = λ i less.
          let less' : i + 1 < length told = omega arith in
          let here : get_or (told_places graph) i 0 ≡ at (get_or told i 0) = place_at i (omega arith) in
          let next : get_or (told_places graph) (i + 1) 0 ≡ at (get_or told (i + 1) 0) = place_at (i + 1) less' in
          subst (λ (k : ℕ). needs graph.arcs k (get_or (told_places graph) (i + 1) 0) ≡ true) (sym here)
          (subst (λ (k : ℕ). needs graph.arcs (at (get_or told i 0)) k ≡ true) (sym next)
          (sym (needs_renumbered ids (id_distinct objects) all graph.arcs among (get_or told i 0) (get_or told (i + 1) 0) (told_low i 0 (omega arith)) (told_low (i + 1) 0 less')) ∙ tells.steps (length objects) by_ids i less'));
      back =
          let end : length told - 1 ≡ length (told_places graph) - 1 = omega arith in
          place_at 0 (omega arith)
          ∙ ap at (tells.round (length objects) by_ids ids_in)
          ∙ sym (place_at (length told - 1) (omega arith))
          ∙ ap (λ (k : ℕ). get_or (told_places graph) k 0) end;
    }
