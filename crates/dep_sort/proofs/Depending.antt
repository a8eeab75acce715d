-- What each place of an order needs, by where it stands.
use Rattle.std.proofs.Common.{◌≡◌, ℕ, zero, suc, ◌+◌, ◌<◌, ◌≤◌, Bool, true, false, true≢false, List, [], ◌∷◌, length, map, get_or, inl, inr, refl, sym, ap, ◌∙◌, arith}
use Rattle.std.specs.Prelude.{◌&&◌, ◌||◌, nat_eq, slice_index}
use Rattle.std.specs.List.{All, AllByRecursion, Contains, IsDistinct, dedup, filter, list_any, range_with_len}
use Rattle.std.specs.List.Sorted.{IsSorted, IsStrictlySortedBy}
use Rattle.std.specs.Ordering.{is_eq, is_lt, nat_cmp}
use Rattle.std.specs.Cmp.{nat_cmp_total, unsigned_tied}
use Rattle.std.specs.BTreeSet.{BTreeSet}
use Rattle.std.proofs.lemmas.Bool.{cases_Bool, cases_lt, eqb-true, eq-eqb, ne_eqb, le-ltb, lt-ltb}
use Rattle.std.proofs.lemmas.List.{get_or-map, length-map}
use Rattle.std.proofs.lemmas.List.Elements.{recursion_from_All}
use Rattle.std.proofs.lemmas.List.Folds.{list_any_at}
use Rattle.std.proofs.lemmas.List.FromFn.{fill_by_all}
use Rattle.std.proofs.lemmas.List.Kept.{Contains-dedup_nat, Contains-from_dedup, IsStrictlySortedBy-filter}
use Rattle.std.proofs.lemmas.Map.Keys.{IsStrictlyIncreasing-dedup, sorted_from_strictly_increasing}
use Rattle.std.proofs.lemmas.Map.Lookups.{btree_set_from_contains, exact_unsigned}
use Rattle.graph_walks.specs.Alike.{AreAlike}
use Rattle.graph_walks.specs.Arcs.{Arc, needs, arcs_from, is_in, AreWithin}
use Rattle.graph_walks.specs.Starts.{IsRising}
use Rattle.dep_sort.specs.FirstOrder.{renumbered}
use Rattle.dep_sort.specs.Ordering.{depends_of}
use Rattle.dep_sort.proofs.Distinct.{needs_renumbered, same_flips}
use Rattle.dep_sort.proofs.Ranks.{renumbered_within}

-- ---- one list that rises strictly has the same numbers

tied_in : (q : ℕ) (xs : List ℕ) → list_any (λ k. is_eq (nat_cmp q k)) xs ≡ is_in q xs
tied_in q [] = refl
tied_in q (x ∷ xs) =
    ap (λ (b : Bool). b || list_any (λ k. is_eq (nat_cmp q k)) xs) (unsigned_tied q x) ∙ ap (λ (b : Bool). nat_eq q x || b) (tied_in q xs)

pub same_rising : (xs ys : List ℕ) → IsStrictlySortedBy nat_cmp xs → IsStrictlySortedBy nat_cmp ys → ((q : ℕ) → is_in q xs ≡ is_in q ys) → xs ≡ ys
same_rising xs ys up_x up_y same =
    let s : BTreeSet ℕ = record { keys = xs } in
    let t : BTreeSet ℕ = record { keys = ys } in
    btree_set_from_contains nat_cmp_total s t up_x up_y (λ q. tied_in q xs ∙ same q ∙ sym (tied_in q ys)) exact_unsigned

-- ---- what rises

less_is : (a b : ℕ) → a < b → nat_cmp a b ≡ nat_cmp 0 1
less_is a b low = rw (lt-ltb a b low) refl

not_less : (a b : ℕ) → b ≤ a → is_lt (nat_cmp a b) ≡ false
not_less a b le =
    elim (cases_Bool (nat_eq a b)) [ inl is ↦ rw (le-ltb a b le, is) refl | inr isnt ↦ rw (le-ltb a b le, isnt) refl ]

above : (a b n : ℕ) → a < b → AllByRecursion (λ y. nat_cmp a y ≡ nat_cmp 0 1) (range_with_len b n)
above a b zero low = tt
above a b (suc n) low = (less_is a b low, above a (b + 1) n (omega arith))

pub range_rises : (a n : ℕ) → IsStrictlySortedBy nat_cmp (range_with_len a n)
unfolding IsStrictlySortedBy
range_rises a zero = tt
range_rises a (suc n) = (above a (a + 1) n (omega arith), range_rises (a + 1) n)

ends_rise : (arcs : List Arc) → IsRising arcs → IsSorted nat_cmp (map (λ (arc : Arc). arc.1) arcs)
ends_rise arcs rising = λ k d low high.
    let long : length (map (λ (arc : Arc). arc.1) arcs) ≡ length arcs = length-map arcs (λ (arc : Arc). arc.1) in
    let e : Arc = (d, d) in
    let at : get_or (map (λ (arc : Arc). arc.1) arcs) k d ≡ (get_or arcs k e).1 = get_or-map (λ (arc : Arc). arc.1) arcs k e d (omega arith) in
    let next : get_or (map (λ (arc : Arc). arc.1) arcs) (k + 1) d ≡ (get_or arcs (k + 1) e).1 = get_or-map (λ (arc : Arc). arc.1) arcs (k + 1) e d (omega arith) in
    let le : (get_or arcs k e).1 ≤ (get_or arcs (k + 1) e).1 = rising k (k + 1) e (omega arith) (omega arith) in
    rw (at, next) (not_less (get_or arcs (k + 1) e).1 (get_or arcs k e).1 le)

-- ---- which numbers these are

contained : (q : ℕ) (xs : List ℕ) → is_in q xs ≡ true → Contains xs q
contained q [] h = absurd (true≢false (sym h))
contained q (x ∷ xs) h =
    elim (cases_Bool (nat_eq q x)) [
      | inl is ↦ (0, omega arith, sym (eqb-true q x is))
      | inr isnt ↦
          let more = contained q xs (sym (ap (λ (b : Bool). b || is_in q xs) isnt) ∙ h) in
          let low : more.0 < length xs = more.1 in
          (suc more.0, omega arith, more.2)
    ]

in_contained : (q : ℕ) (xs : List ℕ) → Contains xs q → is_in q xs ≡ true
in_contained q xs has = list_any_at (nat_eq q) xs has.0 q has.1 (eq-eqb q (get_or xs has.0 q) (sym has.2))

in_dedup : (q : ℕ) (xs : List ℕ) → is_in q (dedup nat_eq xs) ≡ is_in q xs
in_dedup q xs =
    elim (cases_Bool (is_in q xs)) [
      | inl is ↦ in_contained q (dedup nat_eq xs) (Contains-dedup_nat xs q (contained q xs is)) ∙ sym is
      | inr isnt ↦
          elim (cases_Bool (is_in q (dedup nat_eq xs))) [
            | inl has ↦ absurd (true≢false (sym (in_contained q xs (Contains-from_dedup nat_eq xs q (contained q (dedup nat_eq xs) has))) ∙ isnt))
            | inr hasnt ↦ hasnt ∙ sym isnt
          ]
    ]

in_ends : (i q : ℕ) (arcs : List Arc) → is_in q (map (λ (arc : Arc). arc.1) (arcs_from i arcs)) ≡ needs arcs i q
in_ends i q [] = refl
in_ends i q (arc ∷ arcs) =
    elim (cases_Bool (nat_eq arc.0 i)) [
      | inl is ↦ rw is (ap (λ (b : Bool). b || is_in q (map (λ (arc : Arc). arc.1) (arcs_from i arcs))) (same_flips q arc.1) ∙ ap (λ (b : Bool). nat_eq arc.1 q || b) (in_ends i q arcs))
      | inr isnt ↦ rw isnt (in_ends i q arcs)
    ]

in_filter : (q : ℕ) (p : ℕ → Bool) (xs : List ℕ) → is_in q (filter p xs) ≡ (is_in q xs && p q)
in_filter q p [] = refl
in_filter q p (x ∷ xs) =
    elim (cases_Bool (nat_eq q x)) [
      | inl is ↦
          let same : q ≡ x = eqb-true q x is in
          elim (cases_Bool (p x)) [
            | inl yes' ↦ let there : p q ≡ true = ap p same ∙ yes' in rw (yes', is, there) refl
            | inr no' ↦ let out : p q ≡ false = ap p same ∙ no' in rw (no', is) (in_filter q p xs ∙ and_false (is_in q xs) (p q) out ∙ sym out)
          ]
      | inr isnt ↦
          elim (cases_Bool (p x)) [
            | inl yes' ↦ rw (yes', isnt) (in_filter q p xs)
            | inr no' ↦ rw (no', isnt) (in_filter q p xs)
          ]
    ]
  where
    and_false : (a b : Bool) → b ≡ false → (a && b) ≡ false
    and_false true b e = e
    and_false false b e = refl

in_range : (q a n : ℕ) → a ≤ q → q < a + n → is_in q (range_with_len a n) ≡ true
in_range q a zero low high = absurd (omega arith)
in_range q a (suc n) low high =
    elim (cases_Bool (nat_eq q a)) [
      | inl is ↦ rw is refl
      | inr isnt ↦
          let apart : a < q = elim (cases_lt a q) [ inl less ↦ less | inr more ↦ let same : q ≡ a = omega arith in absurd (true≢false (sym (eq-eqb q a same) ∙ isnt)) ] in
          rw isnt (in_range q (a + 1) n (omega arith) (omega arith))
    ]

out_range : (q a n : ℕ) → a + n ≤ q → is_in q (range_with_len a n) ≡ false
out_range q a zero high = refl
out_range q a (suc n) high = rw (ne_eqb q a (λ same. let s : q ≡ a = same in absurd (omega arith))) (out_range q (a + 1) n (omega arith))

beyond : (n i q : ℕ) (arcs : List Arc) → n ≤ q → AllByRecursion (λ (arc : Arc). (arc.0 < n) × (arc.1 < n)) arcs → needs arcs i q ≡ false
beyond n i q [] high all = refl
beyond n i q (arc ∷ arcs) high all =
    let low : arc.1 < n = all.0.1 in
    let apart : nat_eq arc.1 q ≡ false = ne_eqb arc.1 q (λ same. let s : arc.1 ≡ q = same in absurd (omega arith)) in
    ap (λ (b : Bool). (nat_eq arc.0 i && b) || needs arcs i q) apart ∙ either (nat_eq arc.0 i) (needs arcs i q) ∙ beyond n i q arcs high all.1
  where
    either : (a b : Bool) → ((a && false) || b) ≡ b
    either true b = refl
    either false b = refl

-- ---- what each place needs

abbrev needed_by : List Arc → List ℕ → ℕ → ℕ → Bool
needed_by arcs places place at = needs arcs place (slice_index places at)

ends_of_place : (places : List ℕ) (arcs net : List Arc) (i : ℕ) → IsDistinct nat_eq places → All (λ place. place < length places) places → AreWithin (length places) arcs → AreAlike (length places) (renumbered places arcs) net → IsRising (arcs_from i net) → i < length places
    → dedup nat_eq (map (λ (arc : Arc). arc.1) (arcs_from i net)) ≡ filter (needed_by arcs places (get_or places i 0)) (range_with_len 0 (length places))
ends_of_place places arcs net i distinct within among alike rising low =
    same_rising (dedup nat_eq (map (λ (arc : Arc). arc.1) (arcs_from i net))) (filter (needed_by arcs places (get_or places i 0)) (range_with_len 0 (length places)))
    (sorted_from_strictly_increasing (dedup nat_eq (map (λ (arc : Arc). arc.1) (arcs_from i net))) (IsStrictlyIncreasing-dedup (map (λ (arc : Arc). arc.1) (arcs_from i net)) (ends_rise (arcs_from i net) rising)))
    (IsStrictlySortedBy-filter nat_cmp (needed_by arcs places (get_or places i 0)) (range_with_len 0 (length places)) (range_rises 0 (length places)))
    (λ q. in_dedup q (map (λ (arc : Arc). arc.1) (arcs_from i net)) ∙ in_ends i q net ∙ sym (alike.needed i q) ∙ here q ∙ sym (in_filter q (needed_by arcs places (get_or places i 0)) (range_with_len 0 (length places))))
  where
    here : (q : ℕ) → needs (renumbered places arcs) i q ≡ (is_in q (range_with_len 0 (length places)) && needed_by arcs places (get_or places i 0) q)
    here q =
        elim (cases_lt q (length places)) [
          | inl less ↦ needs_renumbered places distinct within arcs among i q low less ∙ sym (ap (λ (b : Bool). b && needed_by arcs places (get_or places i 0) q) (in_range q 0 (length places) (omega arith) (omega arith)))
          | inr more ↦
              beyond (length places) i q (renumbered places arcs) more (recursion_from_All (λ (arc : Arc). (arc.0 < length places) × (arc.1 < length places)) (renumbered places arcs) (renumbered_within places arcs among))
              ∙ sym (ap (λ (b : Bool). b && needed_by arcs places (get_or places i 0) q) (out_range q 0 (length places) (omega arith)))
        ]

map_range : {X : Type 0} (f g : ℕ → X) (a n bound : ℕ) → a + n ≤ bound → ((i : ℕ) → i < bound → f i ≡ g i) → map f (range_with_len a n) ≡ map g (range_with_len a n)
map_range f g a zero bound le same = refl
map_range {X} f g a (suc n) bound le same =
    ap (λ (x : X). x ∷ map f (range_with_len (a + 1) n)) (same a (omega arith)) ∙ ap (λ (l : List X). g a ∷ l) (map_range f g (a + 1) n bound (omega arith) same)

map_both : {X : Type 0} (f : ℕ → X) (g : ℕ → ℕ) (xs : List ℕ) → map (λ i. f (g i)) xs ≡ map f (map g xs)
map_both f g [] = refl
map_both {X} f g (x ∷ xs) = ap (λ (l : List X). f (g x) ∷ l) (map_both f g xs)

-- each element of a list by its place
pub by_places : {X : Type 0} (f : ℕ → X) (places : List ℕ) → map (λ i. f (get_or places i 0)) (range_with_len 0 (length places)) ≡ map f places
by_places f places =
    map_both f (λ i. get_or places i 0) (range_with_len 0 (length places)) ∙ ap (map f) (sym (fill_by_all (λ i. get_or places i 0) places (length places) 0 refl (λ k low. refl)))

pub depends_are : (places : List ℕ) (arcs net : List Arc) (count : ℕ) → IsDistinct nat_eq places → All (λ place. place < length places) places → AreWithin (length places) arcs → count ≡ length places → AreAlike (length places) (renumbered places arcs) net → ((place : ℕ) → IsRising (arcs_from place net))
    → map (λ place. dedup nat_eq (map (λ (arc : Arc). arc.1) (arcs_from place net))) (range_with_len 0 count) ≡ depends_of arcs places
unfolding depends_of
depends_are places arcs net count distinct within among is alike rising =
    ap (λ (n : ℕ). map (λ place. dedup nat_eq (map (λ (arc : Arc). arc.1) (arcs_from place net))) (range_with_len 0 n)) is
    ∙ map_range (λ place. dedup nat_eq (map (λ (arc : Arc). arc.1) (arcs_from place net))) (λ i. filter (needed_by arcs places (get_or places i 0)) (range_with_len 0 (length places))) 0 (length places) (length places) (omega arith)
    (λ i low. ends_of_place places arcs net i distinct within among alike (rising i) low)
    ∙ by_places (λ place. filter (needed_by arcs places place) (range_with_len 0 (length places))) places
