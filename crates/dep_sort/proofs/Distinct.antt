-- Places of which none stands twice, and where each of them stands.
use Rattle.std.proofs.Common.{◌≡◌, ℕ, zero, suc, ◌+◌, ◌<◌, ◌≤◌, Bool, true, false, true≢false, cond, List, [], ◌∷◌, length, map, get_or, Some, inl, inr, refl, sym, ap, subst, ◌∙◌, arith}
use Rattle.std.specs.Prelude.{◌&&◌, ◌||◌, nat_eq, unwrap_or}
use Rattle.std.specs.List.{All, AllByRecursion, IsDistinct, enumerate_from, position_from, range_with_len}
use Rattle.std.specs.List.Sorted.{IsPermutation}
use Rattle.std.specs.Ordering.{is_lt}
use Rattle.std.proofs.lemmas.Bool.{cases_Bool, cases_eq, cases_order, eqb-true, eq-eqb, ne_eqb, false≢true}
use Rattle.std.proofs.lemmas.List.{get_or-map, length-map}
use Rattle.std.proofs.lemmas.List.Elements.{recursion_from_All, All-from_get_or}
use Rattle.std.proofs.lemmas.List.FromFn.{length-range_with_len, get_or-range_with_len}
use Rattle.std.proofs.lemmas.List.Sorted.{IsPermutation-refl, IsPermutation-cons, IsPermutation-trans, IsPermutation-middle, IsPermutation-map}
use Rattle.std.proofs.lemmas.Map.Keys.{IsDistinct-cons, IsDistinct-IsPermutation, IsDistinct-from_apart, apart_from_distinct}
use Rattle.std.proofs.lemmas.Map.Steps.{length-le_from_distinct_below}
use Rattle.graph_parts.specs.declared.object.Obj.{Obj}
use Rattle.graph_walks.specs.Arcs.{Arc, needs, is_in, AreWithin}
use Rattle.dep_sort.specs.FirstOrder.{first_cmp, id_cmp, placed, in_order, first_places, id_places, stands_at, renumbered}

-- ---- what is put in order is all there

placed_permutes : {X : Type 0} (less : X → X → Bool) (x : X) (ys : List X) → IsPermutation (x ∷ ys) (placed less x ys)
unfolding placed
placed_permutes less x [] = IsPermutation-refl (x ∷ [])
placed_permutes less x (y ∷ ys) =
    elim (cases_Bool (less y x)) [
      | inl is ↦ rw is (IsPermutation-trans (x ∷ y ∷ ys) (y ∷ x ∷ ys) (y ∷ placed less x ys) (IsPermutation-middle (x ∷ []) y ys) (IsPermutation-cons y (x ∷ ys) (placed less x ys) (placed_permutes less x ys)))
      | inr isnt ↦ rw isnt (IsPermutation-refl (x ∷ y ∷ ys))
    ]

pub in_order_permutes : {X : Type 0} (less : X → X → Bool) (xs : List X) → IsPermutation xs (in_order less xs)
unfolding in_order
in_order_permutes less [] = IsPermutation-refl []
in_order_permutes less (x ∷ xs) =
    IsPermutation-trans (x ∷ xs) (x ∷ in_order less xs) (placed less x (in_order less xs)) (IsPermutation-cons x xs (in_order less xs) (in_order_permutes less xs)) (placed_permutes less x (in_order less xs))

numbers : {X : Type 0} (n : ℕ) (xs : List X) → map (λ (e : ℕ × X). e.0) (enumerate_from n xs) ≡ range_with_len n (length xs)
numbers n [] = refl
numbers n (x ∷ xs) = ap (λ (l : List ℕ). n ∷ l) (numbers (n + 1) xs)

pub first_permutes : (objects : List Obj) → IsPermutation (range_with_len 0 (length objects)) (first_places objects)
unfolding first_places
first_permutes objects =
    subst (λ (l : List ℕ). IsPermutation l (map (λ (e : ℕ × Obj). e.0) (in_order (λ a b. is_lt (first_cmp a.1 b.1)) (enumerate_from 0 objects)))) (numbers 0 objects)
    (IsPermutation-map (λ (e : ℕ × Obj). e.0) (enumerate_from 0 objects) (in_order (λ a b. is_lt (first_cmp a.1 b.1)) (enumerate_from 0 objects)) (in_order_permutes (λ (a b : ℕ × Obj). is_lt (first_cmp a.1 b.1)) (enumerate_from 0 objects)))

pub id_permutes : (objects : List Obj) → IsPermutation (range_with_len 0 (length objects)) (id_places objects)
unfolding id_places
id_permutes objects =
    subst (λ (l : List ℕ). IsPermutation l (map (λ (e : ℕ × Obj). e.0) (in_order (λ a b. is_lt (id_cmp a.1.id b.1.id)) (enumerate_from 0 objects)))) (numbers 0 objects)
    (IsPermutation-map (λ (e : ℕ × Obj). e.0) (enumerate_from 0 objects) (in_order (λ a b. is_lt (id_cmp a.1.id b.1.id)) (enumerate_from 0 objects)) (in_order_permutes (λ (a b : ℕ × Obj). is_lt (id_cmp a.1.id b.1.id)) (enumerate_from 0 objects)))

-- ---- none stands twice

pub same_flips : (x y : ℕ) → nat_eq x y ≡ nat_eq y x
same_flips x y =
    elim (cases_eq x y) [
      | inl same ↦ eq-eqb x y same ∙ sym (eq-eqb y x (sym same))
      | inr other ↦ ne_eqb x y other ∙ sym (ne_eqb y x (λ same. other (sym same)))
    ]

pub range_distinct : (n : ℕ) → IsDistinct nat_eq (range_with_len 0 n)
range_distinct n =
    IsDistinct-from_apart nat_eq (range_with_len 0 n) (λ i j d less low.
    let high : j < n = let long : length (range_with_len 0 n) ≡ n = length-range_with_len 0 n in omega arith in
    let at_i : get_or (range_with_len 0 n) i d ≡ 0 + i = get_or-range_with_len 0 n i d (omega arith) in
    let at_j : get_or (range_with_len 0 n) j d ≡ 0 + j = get_or-range_with_len 0 n j d high in
    ne_eqb (get_or (range_with_len 0 n) i d) (get_or (range_with_len 0 n) j d) (λ same. let s : get_or (range_with_len 0 n) i d ≡ get_or (range_with_len 0 n) j d = same in absurd (omega arith)))

pub first_distinct : (objects : List Obj) → IsDistinct nat_eq (first_places objects)
first_distinct objects = IsDistinct-IsPermutation nat_eq same_flips (range_with_len 0 (length objects)) (first_places objects) (first_permutes objects) (range_distinct (length objects))

pub id_distinct : (objects : List Obj) → IsDistinct nat_eq (id_places objects)
id_distinct objects = IsDistinct-IsPermutation nat_eq same_flips (range_with_len 0 (length objects)) (id_places objects) (id_permutes objects) (range_distinct (length objects))

-- where the same stands it is one place
pub one_place : (places : List ℕ) (i j : ℕ) → IsDistinct nat_eq places → i < length places → j < length places → get_or places i 0 ≡ get_or places j 0 → i ≡ j
one_place places i j distinct low_i low_j same =
    elim (cases_order i j) [
      | inl is ↦ is
      | inr apart ↦
          elim apart [
            | inl less ↦ absurd (true≢false (sym (eq-eqb (get_or places i 0) (get_or places j 0) same) ∙ apart_from_distinct nat_eq places i j 0 distinct less low_j))
            | inr more ↦ absurd (true≢false (sym (eq-eqb (get_or places j 0) (get_or places i 0) (sym same)) ∙ apart_from_distinct nat_eq places j i 0 distinct more low_i))
          ]
    ]

pub picked_distinct : (places order : List ℕ) → IsDistinct nat_eq places → IsDistinct nat_eq order → All (λ at. at < length places) order → IsDistinct nat_eq (map (λ at. get_or places at 0) order)
picked_distinct places order distinct apart within =
    IsDistinct-from_apart nat_eq (map (λ at. get_or places at 0) order) (λ i j d less low.
    let long : length (map (λ at. get_or places at 0) order) ≡ length order = length-map order (λ at. get_or places at 0) in
    let low_j : j < length order = omega arith in
    let low_i : i < length order = omega arith in
    let at_i : get_or (map (λ at. get_or places at 0) order) i d ≡ get_or places (get_or order i 0) 0 = get_or-map (λ at. get_or places at 0) order i 0 d low_i in
    let at_j : get_or (map (λ at. get_or places at 0) order) j d ≡ get_or places (get_or order j 0) 0 = get_or-map (λ at. get_or places at 0) order j 0 d low_j in
    rw (at_i, at_j)
    (ne_eqb (get_or places (get_or order i 0) 0) (get_or places (get_or order j 0) 0) (λ same.
    let one : get_or order i 0 ≡ get_or order j 0 = one_place places (get_or order i 0) (get_or order j 0) distinct (within i 0 low_i) (within j 0 low_j) same in
    true≢false (sym (eq-eqb (get_or order i 0) (get_or order j 0) one) ∙ apart_from_distinct nat_eq order i j 0 apart less low_j))))

pub picked_within : (bound : ℕ) (places order : List ℕ) → All (λ place. place < bound) places → All (λ at. at < length places) order → All (λ place. place < bound) (map (λ at. get_or places at 0) order)
picked_within bound places order low within =
    All-from_get_or (λ place. place < bound) (map (λ at. get_or places at 0) order) 0 (λ i less.
    let long : length (map (λ at. get_or places at 0) order) ≡ length order = length-map order (λ at. get_or places at 0) in
    let low_i : i < length order = omega arith in
    let at_i : get_or (map (λ at. get_or places at 0) order) i 0 ≡ get_or places (get_or order i 0) 0 = get_or-map (λ at. get_or places at 0) order i 0 0 low_i in
    rw at_i (low (get_or order i 0) 0 (within i 0 low_i)))

-- ---- all of them are there

unlike : (p : ℕ) (places : List ℕ) → is_in p places ≡ false → AllByRecursion (λ y. nat_eq p y ≡ false) places
unlike p [] out = tt
unlike p (y ∷ places) out =
    elim (cases_Bool (nat_eq p y)) [
      | inl is ↦ absurd (true≢false (sym (ap (λ (b : Bool). b || is_in p places) is) ∙ out))
      | inr isnt ↦ (isnt, unlike p places (sym (ap (λ (b : Bool). b || is_in p places) isnt) ∙ out))
    ]

in_low : (bound : ℕ) (places : List ℕ) (q : ℕ) → AllByRecursion (λ place. place < bound) places → is_in q places ≡ true → q < bound
in_low bound [] q all h = absurd (false≢true h)
in_low bound (y ∷ places) q all h =
    elim (cases_Bool (nat_eq q y)) [
      | inl is ↦ subst (λ (k : ℕ). k < bound) (sym (eqb-true q y is)) all.0
      | inr isnt ↦ in_low bound places q all.1 (sym (ap (λ (b : Bool). b || is_in q places) isnt) ∙ h)
    ]

pub whole_in : (places : List ℕ) → IsDistinct nat_eq places → All (λ place. place < length places) places → (p : ℕ) → p < length places → is_in p places ≡ true
whole_in places distinct within p low =
    elim (cases_Bool (is_in p places)) [
      | inl is ↦ is
      | inr isnt ↦
          let more : IsDistinct nat_eq (p ∷ places) = IsDistinct-cons nat_eq p places (unlike p places isnt) distinct in
          let all : AllByRecursion (λ place. place < length places) (p ∷ places) = (low, recursion_from_All (λ place. place < length places) places within) in
          let few : length (p ∷ places) ≤ length places = length-le_from_distinct_below (p ∷ places) (length places) more (λ q h. in_low (length places) (p ∷ places) q all h) in
          absurd (omega arith)
    ]

-- ---- where a place stands

found_in : (p n : ℕ) (places : List ℕ) → is_in p places ≡ true → (k : ℕ) × (k < length places) × (get_or places k 0 ≡ p) × (unwrap_or (position_from (nat_eq p) n places) 0 ≡ n + k)
found_in p n [] h = absurd (false≢true h)
found_in p n (y ∷ places) h =
    elim (cases_Bool (nat_eq p y)) [
      | inl is ↦ let none' : n ≡ n + 0 = omega arith in (0, omega arith, sym (eqb-true p y is), ap (λ (b : Bool). unwrap_or (cond b (Some n) (position_from (nat_eq p) (n + 1) places)) 0) is ∙ none')
      | inr isnt ↦
          let more = found_in p (n + 1) places (sym (ap (λ (b : Bool). b || is_in p places) isnt) ∙ h) in
          let low : more.0 < length places = more.1 in
          let at : n + 1 + more.0 ≡ n + suc more.0 = omega arith in
          (suc more.0, omega arith, more.2, ap (λ (b : Bool). unwrap_or (cond b (Some n) (position_from (nat_eq p) (n + 1) places)) 0) isnt ∙ more.3 ∙ at)
    ]

pub stands_there : (places : List ℕ) (p : ℕ) → is_in p places ≡ true → (stands_at places p < length places) × (get_or places (stands_at places p) 0 ≡ p)
unfolding stands_at
stands_there places p h =
    let found = found_in p 0 places h in
    let at : unwrap_or (position_from (nat_eq p) 0 places) 0 ≡ found.0 = let e : unwrap_or (position_from (nat_eq p) 0 places) 0 ≡ 0 + found.0 = found.3 in omega arith in
    rw at (found.1, found.2)

own_in : (places : List ℕ) (i : ℕ) → i < length places → is_in (get_or places i 0) places ≡ true
own_in [] i low = absurd (omega arith)
own_in (y ∷ places) zero low = rw (eq-eqb y y refl) refl
own_in (y ∷ places) (suc i) low =
    let more : is_in (get_or places i 0) places ≡ true = own_in places i (omega arith) in
    elim (cases_Bool (nat_eq (get_or places i 0) y)) [ inl is ↦ rw is refl | inr isnt ↦ rw isnt more ]

pub stands_back : (places : List ℕ) (i : ℕ) → IsDistinct nat_eq places → i < length places → stands_at places (get_or places i 0) ≡ i
stands_back places i distinct low =
    let there = stands_there places (get_or places i 0) (own_in places i low) in
    one_place places (stands_at places (get_or places i 0)) i distinct there.0 low there.1

pub stands_is : (places : List ℕ) → IsDistinct nat_eq places → All (λ place. place < length places) places → (a i : ℕ) → a < length places → i < length places → nat_eq (stands_at places a) i ≡ nat_eq a (get_or places i 0)
stands_is places distinct within a i low_a low_i =
    let there = stands_there places a (whole_in places distinct within a low_a) in
    elim (cases_eq a (get_or places i 0)) [
      | inl same ↦ eq-eqb (stands_at places a) i (ap (stands_at places) same ∙ stands_back places i distinct low_i) ∙ sym (eq-eqb a (get_or places i 0) same)
      | inr other ↦ ne_eqb (stands_at places a) i (λ is. other (sym there.1 ∙ ap (λ (k : ℕ). get_or places k 0) is)) ∙ sym (ne_eqb a (get_or places i 0) other)
    ]

each_needs : (places : List ℕ) → IsDistinct nat_eq places → All (λ place. place < length places) places → (i j : ℕ) → i < length places → j < length places → (arcs : List Arc) → AllByRecursion (λ arc. (arc.0 < length places) × (arc.1 < length places)) arcs → needs (renumbered places arcs) i j ≡ needs arcs (get_or places i 0) (get_or places j 0)
unfolding renumbered
each_needs places distinct within i j low_i low_j [] all = refl
each_needs places distinct within i j low_i low_j (arc ∷ arcs) all =
    ap (λ (b : Bool). (b && nat_eq (stands_at places arc.1) j) || needs (renumbered places arcs) i j) (stands_is places distinct within arc.0 i all.0.0 low_i)
    ∙ ap (λ (b : Bool). (nat_eq arc.0 (get_or places i 0) && b) || needs (renumbered places arcs) i j) (stands_is places distinct within arc.1 j all.0.1 low_j)
    ∙ ap (λ (b : Bool). (nat_eq arc.0 (get_or places i 0) && nat_eq arc.1 (get_or places j 0)) || b) (each_needs places distinct within i j low_i low_j arcs all.1)

-- what is needed by where places stand is what the places need
pub needs_renumbered : (places : List ℕ) → IsDistinct nat_eq places → All (λ place. place < length places) places → (arcs : List Arc) → AreWithin (length places) arcs → (i j : ℕ) → i < length places → j < length places → needs (renumbered places arcs) i j ≡ needs arcs (get_or places i 0) (get_or places j 0)
needs_renumbered places distinct within arcs among i j low_i low_j =
    each_needs places distinct within i j low_i low_j arcs (recursion_from_All (λ arc. (arc.0 < length places) × (arc.1 < length places)) arcs among)
