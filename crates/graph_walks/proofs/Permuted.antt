-- Nothing that is said of places depends on the order in which their arcs stand.
use Rattle.std.proofs.Common.{◌≡◌, ℕ, zero, suc, List, [], ◌∷◌, ◌++◌, Option, Some, None, inl, inr, refl, sym, ap, ◌∙◌}
use Rattle.std.specs.Prelude.{◌&&◌, nat_eq, not, reverse}
use Rattle.std.specs.List.{find, list_any, range_with_len}
use Rattle.std.specs.List.Sorted.{IsPermutation}
use Rattle.std.proofs.lemmas.Bool.{cases_Bool}
use Rattle.std.proofs.lemmas.List.Sorted.{list_any-IsPermutation}
use Rattle.graph_walks.specs.Alike.{AreAlike}
use Rattle.graph_walks.specs.Arcs.{Arc, needs}
use Rattle.graph_walks.specs.Filling.{is_free, last_free, without, filled, order_of}
use Rattle.graph_walks.specs.Reaching.{reaches, on_cycle}
use Rattle.graph_walks.specs.Telling.{off, first_on_cycle, next_on_path, rest_of_path, told_cycle}
use Rattle.graph_walks.proofs.Offs.{off_needs, needs_off}
use Rattle.graph_walks.proofs.Orders.{filled_none, filled_some}
use Rattle.graph_walks.proofs.Reached.{same_reach}
use Rattle.graph_walks.proofs.Tests.{one_test}

abbrev Same : List Arc → List Arc → Type 0
Same xs ys = (a b : ℕ) → needs xs a b ≡ needs ys a b

same_from : (xs ys : List Arc) → IsPermutation xs ys → Same xs ys
same_from xs ys permuted a b = list_any-IsPermutation (λ arc. nat_eq arc.0 a && nat_eq arc.1 b) xs ys permuted

-- ---- the order

last_same : (xs ys : List Arc) → Same xs ys → (left : List ℕ) → last_free xs left ≡ last_free ys left
unfolding last_free is_free
last_same xs ys same left = λ i. find (λ p. not (list_any (λ o. same o p i) left)) (reverse left)

filled_same : (k : ℕ) (xs ys : List Arc) → Same xs ys → (left : List ℕ) → filled k xs left ≡ filled k ys left
unfolding filled
filled_same zero xs ys same left = refl
filled_same (suc k) xs ys same left = by (λ l. filled_same k xs ys same l) (last_free xs left) refl
  where
    by : ((l : List ℕ) → filled k xs l ≡ filled k ys l) → (o : Option ℕ) → last_free xs left ≡ o → filled (suc k) xs left ≡ filled (suc k) ys left
    by later None none' = filled_none k xs left none' ∙ sym (filled_none k ys left (sym (last_same xs ys same left) ∙ none'))
    by later (Some x) some =
        filled_some k xs left x some
        ∙ ap (λ (l : List ℕ). l ++ x ∷ []) (later (without x left))
        ∙ sym (filled_some k ys left x (sym (last_same xs ys same left) ∙ some))

-- ---- the cycle

off_same : (xs ys : List Arc) → Same xs ys → (path : List ℕ) → Same (off path xs) (off path ys)
off_same xs ys same path a b =
    one_test (needs (off path xs) a b) (needs (off path ys) a b)
    (λ h. let parts = needs_off path xs a b h in off_needs path ys a b parts.0 (sym (same a b) ∙ parts.1))
    (λ h. let parts = needs_off path ys a b h in off_needs path xs a b parts.0 (same a b ∙ parts.1))

next_same : (count : ℕ) (xs ys : List Arc) → Same xs ys → (start : ℕ) (path : List ℕ) (last : ℕ) → next_on_path count xs start path last ≡ next_on_path count ys start path last
unfolding next_on_path
next_same count xs ys same start path last =
    λ i. find (λ place. same last place i && same_reach (off path xs) (off path ys) (off_same xs ys same path) place start i) (range_with_len 0 count)

rest_same : (rounds count : ℕ) (xs ys : List Arc) → Same xs ys → (start : ℕ) (path : List ℕ) (last : ℕ) → rest_of_path rounds count xs start path last ≡ rest_of_path rounds count ys start path last
unfolding rest_of_path
rest_same zero count xs ys same start path last = refl
rest_same (suc rounds) count xs ys same start path last = by (λ p l. rest_same rounds count xs ys same start p l) (next_on_path count xs start path last) refl
  where
    by : ((p : List ℕ) (l : ℕ) → rest_of_path rounds count xs start p l ≡ rest_of_path rounds count ys start p l) → (o : Option ℕ) → next_on_path count xs start path last ≡ o → rest_of_path (suc rounds) count xs start path last ≡ rest_of_path (suc rounds) count ys start path last
    by later None none' = let other = sym (next_same count xs ys same start path last) ∙ none' in rw (none', other) refl
    by later (Some place) some =
        let other = sym (next_same count xs ys same start path last) ∙ some in
        elim (cases_Bool (nat_eq place start)) [
          | inl is ↦ rw (some, other, is) refl
          | inr isnt ↦ rw (some, other, isnt) (ap (λ (l : List ℕ). place ∷ l) (later (place ∷ path) place))
        ]

first_same : (count : ℕ) (xs ys : List Arc) → IsPermutation xs ys → first_on_cycle count xs ≡ first_on_cycle count ys
unfolding first_on_cycle on_cycle
first_same count xs ys permuted =
    (λ i. find (λ place. list_any-IsPermutation (λ (arc : Arc). nat_eq arc.0 place && reaches xs arc.1 arc.0) xs ys permuted i) (range_with_len 0 count))
    ∙ (λ i. find (λ place. list_any (λ (arc : Arc). nat_eq arc.0 place && same_reach xs ys (same_from xs ys permuted) arc.1 arc.0 i) ys) (range_with_len 0 count))

told_same : (count : ℕ) (xs ys : List Arc) → IsPermutation xs ys → told_cycle count xs ≡ told_cycle count ys
unfolding told_cycle
told_same count xs ys permuted = by (first_on_cycle count xs) refl
  where
    by : (o : Option ℕ) → first_on_cycle count xs ≡ o → told_cycle count xs ≡ told_cycle count ys
    by None none' = let other = sym (first_same count xs ys permuted) ∙ none' in rw (none', other) refl
    by (Some start) some =
        let other = sym (first_same count xs ys permuted) ∙ some in
        rw (some, other) (ap (λ (l : List ℕ). start ∷ l) (rest_same count count xs ys (same_from xs ys permuted) start (start ∷ []) start))

pub permuted_alike : (count : ℕ) (xs ys : List Arc) → IsPermutation xs ys → AreAlike count xs ys
unfolding order_of
permuted_alike count xs ys permuted = record {
  needed = same_from xs ys permuted;
  reached = same_reach xs ys (same_from xs ys permuted);
  order = filled_same count xs ys (same_from xs ys permuted) (range_with_len 0 count);
  told = told_same count xs ys permuted;
}
