-- Where no arc lies on a cycle, an order has all places.
use Rattle.std.proofs.Common.{◌≡◌, ℕ, zero, suc, ◌<◌, ◌≤◌, Bool, true, false, List, [], ◌∷◌, length, Option, Some, None, inl, inr, refl, sym, ap, subst, ◌∙◌, arith}
use Rattle.std.specs.Prelude.{nat_eq, not, reverse}
use Rattle.std.specs.List.{filter, find, list_any, range_with_len}
use Rattle.std.proofs.lemmas.Bool.{false≢true, cases_Bool, cases_lt, cases_eq, eqb-true, eq-eqb}
use Rattle.std.proofs.lemmas.List.Elements.{recursion_from_All}
use Rattle.std.proofs.lemmas.List.FromFn.{length-range_with_len}
use Rattle.std.proofs.lemmas.List.Sorted.{IsPermutation-reverse, list_any-IsPermutation}
use Rattle.graph_walks.specs.Arcs.{Arc, needs, is_in, AreWithin}
use Rattle.graph_walks.specs.Filling.{is_free, last_free, without, filled, order_of}
use Rattle.graph_walks.specs.Reaching.{reaches, on_cycle}
use Rattle.graph_walks.proofs.Filled.{without_shorter}
use Rattle.graph_walks.proofs.Orders.{last_parts, filled_some, in_without}
use Rattle.graph_walks.proofs.Reached.{leads_self, leads_step, leads_on, reaches_leads, leads_reaches}
use Rattle.graph_walks.proofs.Tests.{either, or_left, in_left, in_right, in_range, some_of, holds_of_arc}

kept_less : (p q : ℕ → Bool) (xs : List ℕ) → ((z : ℕ) → p z ≡ true → q z ≡ true) → length (filter p xs) ≤ length (filter q xs)
kept_less p q [] under = omega arith
kept_less p q (x ∷ xs) under =
    let rest : length (filter p xs) ≤ length (filter q xs) = kept_less p q xs under in
    elim (cases_Bool (p x)) [
      | inl is ↦ let too : q x ≡ true = under x is in rw (is, too) (omega arith)
      | inr isnt ↦ elim (cases_Bool (q x)) [ inl is ↦ rw (isnt, is) (omega arith) | inr no' ↦ rw (isnt, no') rest ]
    ]

kept_fewer : (p q : ℕ → Bool) (x : ℕ) (xs : List ℕ) → ((z : ℕ) → p z ≡ true → q z ≡ true) → is_in x xs ≡ true → q x ≡ true → p x ≡ false → length (filter p xs) < length (filter q xs)
kept_fewer p q x [] under in' is isnt = absurd (false≢true in')
kept_fewer p q x (y ∷ xs) under in' is isnt =
    let le : length (filter p xs) ≤ length (filter q xs) = kept_less p q xs under in
    elim (either (nat_eq x y) (is_in x xs) in') [
      | inl here ↦
          let same : x ≡ y = eqb-true x y here in
          let q_y : q y ≡ true = subst (λ (n : ℕ). q n ≡ true) same is in
          let p_y : p y ≡ false = subst (λ (n : ℕ). p n ≡ false) same isnt in
          rw (q_y, p_y) (omega arith)
      | inr more ↦
          let less : length (filter p xs) < length (filter q xs) = kept_fewer p q x xs under more is isnt in
          elim (cases_Bool (p y)) [
            | inl p_y ↦ let q_y : q y ≡ true = under y p_y in rw (p_y, q_y) (omega arith)
            | inr p_y ↦ elim (cases_Bool (q y)) [ inl q_y ↦ rw (p_y, q_y) (omega arith) | inr q_y ↦ rw (p_y, q_y) less ]
          ]
    ]

-- how many places a place reaches
weight : ℕ → List Arc → ℕ → ℕ
weight count arcs x = length (filter (reaches arcs x) (range_with_len 0 count))

abbrev HasNone : List Arc → Type 0
HasNone arcs = (a b : ℕ) → needs arcs a b ≡ true → on_cycle arcs (a, b) ≡ false

-- a place reaches more than each that it needs
weighs_less : (count : ℕ) (arcs : List Arc) → AreWithin count arcs → HasNone arcs → (a b : ℕ) → needs arcs a b ≡ true → weight count arcs b < weight count arcs a
unfolding weight on_cycle
weighs_less count arcs within none a b need =
    let low : a < count = (holds_of_arc (λ x y. (x < count) × (y < count)) arcs (recursion_from_All (λ arc. (arc.0 < count) × (arc.1 < count)) arcs within) a b need).0 in
    kept_fewer (reaches arcs b) (reaches arcs a) a (range_with_len 0 count)
    (λ z h. leads_reaches arcs a z (leads_on arcs a b z (leads_step arcs a b need) (reaches_leads arcs b z h)))
    (in_range 0 count a (omega arith) (omega arith))
    (leads_reaches arcs a a (leads_self arcs a))
    (none a b need)

heaviest : (f : ℕ → ℕ) (x : ℕ) (xs : List ℕ) → (r : ℕ) × (is_in r (x ∷ xs) ≡ true) × ((s : ℕ) → is_in s (x ∷ xs) ≡ true → f s ≤ f r)
heaviest f x [] = (
  x,
  or_left (nat_eq x x) false (eq-eqb x x refl),
  λ s in'. elim (either (nat_eq s x) false in') [
    | inl is ↦ let same : f s ≡ f x = ap f (eqb-true s x is) in omega arith
    | inr no' ↦ absurd (false≢true no')
  ],
)
heaviest f x (y ∷ xs) =
    let rest = heaviest f y xs in
    let r : ℕ = rest.0 in
    elim (cases_lt (f r) (f x)) [
      | inl less ↦ (
        x,
        or_left (nat_eq x x) (is_in x (y ∷ xs)) (eq-eqb x x refl),
        λ s in'. elim (either (nat_eq s x) (is_in s (y ∷ xs)) in') [
          | inl is ↦ let same : f s ≡ f x = ap f (eqb-true s x is) in omega arith
          | inr more ↦ let le : f s ≤ f r = rest.2 s more in omega arith
        ],
      )
      | inr more ↦ (
        r,
        in_right r (x ∷ []) (y ∷ xs) rest.1,
        λ s in'. elim (either (nat_eq s x) (is_in s (y ∷ xs)) in') [
          | inl is ↦ let same : f s ≡ f x = ap f (eqb-true s x is) in omega arith
          | inr later ↦ rest.2 s later
        ],
      )
    ]

find_some : (p : ℕ → Bool) (r : ℕ) (xs : List ℕ) → is_in r xs ≡ true → p r ≡ true → find p xs ≡ None → ⊥
find_some p r [] in' is none' = false≢true in'
find_some p r (y ∷ xs) in' is none' =
    elim (cases_Bool (p y)) [
      | inl p_y ↦ let no' : Some y ≡ None = rw p_y at none' in absurd cc
      | inr p_y ↦
          let later : find p xs ≡ None = rw p_y at none' in
          elim (either (nat_eq r y) (is_in r xs) in') [
            | inl here ↦ false≢true (sym p_y ∙ subst (λ (n : ℕ). p n ≡ true) (eqb-true r y here) is)
            | inr more ↦ find_some p r xs more is later
          ]
    ]

some_free : (count : ℕ) (arcs : List Arc) → AreWithin count arcs → HasNone arcs → (y : ℕ) (left : List ℕ) → is_in y left ≡ true → last_free arcs left ≡ None → ⊥
unfolding last_free is_free
some_free count arcs within none y [] in' none' = false≢true in'
some_free count arcs within none y (x ∷ xs) in' none' =
    let most = heaviest (weight count arcs) x xs in
    let r : ℕ = most.0 in
    let free : not (list_any (λ other. needs arcs other r) (x ∷ xs)) ≡ true = elim (cases_Bool (list_any (λ other. needs arcs other r) (x ∷ xs))) [
      | inl some ↦
          let found = some_of (λ other. needs arcs other r) (x ∷ xs) some in
          let less : weight count arcs r < weight count arcs found.0 = weighs_less count arcs within none found.0 r found.2 in
          let le : weight count arcs found.0 ≤ weight count arcs r = most.2 found.0 found.1 in
          absurd (omega arith)
      | inr no' ↦ ap not no'
    ] in
    find_some (is_free arcs (x ∷ xs)) r (reverse (x ∷ xs)) (sym (list_any-IsPermutation (nat_eq r) (x ∷ xs) (reverse (x ∷ xs)) (IsPermutation-reverse (x ∷ xs))) ∙ most.1) free none'

filled_whole : (count : ℕ) (arcs : List Arc) → AreWithin count arcs → HasNone arcs → (k : ℕ) (left : List ℕ) → length left ≤ k → (y : ℕ) → is_in y left ≡ true → is_in y (filled k arcs left) ≡ true
unfolding filled
filled_whole count arcs within none zero [] le y in' = absurd (false≢true in')
filled_whole count arcs within none zero (x ∷ xs) le y in' = absurd (omega arith)
filled_whole count arcs within none (suc k) left le y in' = by (λ l small at. filled_whole count arcs within none k l small y at) (last_free arcs left) refl
  where
    by : ((l : List ℕ) → length l ≤ k → is_in y l ≡ true → is_in y (filled k arcs l) ≡ true) → (o : Option ℕ) → last_free arcs left ≡ o → is_in y (filled (suc k) arcs left) ≡ true
    by later None none' = absurd (some_free count arcs within none y left in' none')
    by later (Some x) some =
        let less : length (without x left) < length left = without_shorter x left (last_parts arcs left x some).0 in
        subst (λ (l : List ℕ). is_in y l ≡ true) (sym (filled_some k arcs left x some))
        (elim (cases_eq y x) [
          | inl same ↦ in_right y (filled k arcs (without x left)) (x ∷ []) (or_left (nat_eq y x) false (eq-eqb y x same))
          | inr other ↦ in_left y (filled k arcs (without x left)) (x ∷ []) (later (without x left) (omega arith) (in_without x y left in' other))
        ])

pub order_whole : (count : ℕ) (arcs : List Arc) → AreWithin count arcs → HasNone arcs → (place : ℕ) → place < count → is_in place (order_of count arcs) ≡ true
unfolding order_of
order_whole count arcs within none place low =
    let long : length (range_with_len 0 count) ≡ count = length-range_with_len 0 count in
    filled_whole count arcs within none count (range_with_len 0 count) (omega arith) place (in_range 0 count place (omega arith) (omega arith))
