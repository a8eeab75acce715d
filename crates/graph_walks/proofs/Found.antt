-- Where the arcs of a place stand among arcs in order.
use Rattle.std.proofs.Common.{◌≡◌, ℕ, zero, suc, ◌+◌, ◌-◌, ◌<◌, ◌≤◌, ◌^◌, Bool, true, false, List, [], ◌∷◌, length, get_or, take, drop, inl, inr, refl, sym, ap, subst, ◌∙◌, arith}
use Rattle.std.specs.Prelude.{nat_eq}
use Rattle.std.specs.List.{AllWithin, filter}
use Rattle.std.specs.List.Sorted.{IsSorted, IsNonDecreasingBy, IsPermutation}
use Rattle.std.specs.Cmp.{IsStrictWeakOrder}
use Rattle.std.specs.declared.cmp.Ordering.{Ordering}
use Rattle.std.specs.declared.cmp.Ordering.TheVariants.{Less, Equal, Greater}
use Rattle.std.specs.Ordering.{nat_cmp, is_lt, ordering_then}
use Rattle.std.proofs.lemmas.Bool.{false≢true, cases_lt, ltb-true, ltb-false, lt-ltb, le-ltb, eqb-true, eq-eqb, ne_eqb}
use Rattle.std.proofs.lemmas.Cmp.{nat_cmp_total, on_total, then_total}
use Rattle.std.proofs.lemmas.List.Sorted.{ranks_by, sorted_far, IsNonDecreasingBy-from_sort, All-permutation}
use Rattle.graph_walks.specs.Arcs.{Arc, arcs_from, AreWithin}
use Rattle.graph_walks.proofs.Ascending.{Ascends, ascends_from, ascends_kept, ascends_at}
use Rattle.graph_walks.specs.Starts.{IsStart, AreStarts, StandBetween, IsRising, AreFound}

-- where the elements that a test keeps stand side by side, they are a part of the list
kept_run : {X : Type 0} (p : X → Bool) (xs : List X) (a n : ℕ) → AllWithin (λ x. p x ≡ false) xs 0 a → AllWithin (λ x. p x ≡ true) xs a (a + n) → AllWithin (λ x. p x ≡ false) xs (a + n) (length xs) → take n (drop a xs) ≡ filter p xs
kept_run p [] zero zero front within behind = refl
kept_run p [] zero (suc n) front within behind = refl
kept_run p [] (suc a) zero front within behind = refl
kept_run p [] (suc a) (suc n) front within behind = refl
kept_run p (x ∷ xs) (suc a) n front within behind =
    let here : p x ≡ false = front 0 x (omega arith) (omega arith) in
    rw here
    (kept_run p xs a n (λ k d low high. front (suc k) d (omega arith) (omega arith)) (λ k d low high. within (suc k) d (omega arith) (omega arith)) (λ k d low high. behind (suc k) d (omega arith) (omega arith)))
kept_run {X} p (x ∷ xs) zero (suc n) front within behind =
    let here : p x ≡ true = within 0 x (omega arith) (omega arith) in
    rw here
    (ap (λ (l : List X). x ∷ l) (kept_run p xs zero n (λ k d low high. absurd (omega arith)) (λ k d low high. within (suc k) d (omega arith) (omega arith)) (λ k d low high. behind (suc k) d (omega arith) (omega arith))))
kept_run p (x ∷ xs) zero zero front within behind =
    let here : p x ≡ false = behind 0 x (omega arith) (omega arith) in
    rw here
    (kept_run p xs zero zero (λ k d low high. absurd (omega arith)) (λ k d low high. absurd (omega arith)) (λ k d low high. behind (suc k) d (omega arith) (omega arith)))

-- ---- the order of arcs

abbrev arc_cmp : Arc → Arc → Ordering
arc_cmp a b = ordering_then (nat_cmp a.0 b.0) (nat_cmp a.1 b.1)

first_not_less : (a b : Ordering) → is_lt (ordering_then a b) ≡ false → is_lt a ≡ false
first_not_less Less b h = h
first_not_less Equal b h = refl
first_not_less Greater b h = refl

begins_rise : (arcs : List Arc) → IsSorted arc_cmp arcs → IsNonDecreasingBy (λ (a : Arc). a.0) arcs
begins_rise arcs sorted =
    IsNonDecreasingBy-from_sort (λ (a : Arc). a.0) arcs (λ k d low high. first_not_less (nat_cmp (get_or arcs (k + 1) d).0 (get_or arcs k d).0) (nat_cmp (get_or arcs (k + 1) d).1 (get_or arcs k d).1) (sorted k d low high))

-- ---- where the arcs of a place are

between : (arcs : List Arc) (place start end : ℕ) → IsNonDecreasingBy (λ (a : Arc). a.0) arcs → IsStart arcs place start → IsStart arcs (place + 1) end → StandBetween arcs place start end
between arcs place start end rise from to =
    record { rising = up; within = to.within; part = part }
  where
    none : Arc
    none = (0, 0)

    up : start ≤ end
    up = elim (cases_lt end start) [
      | inl early ↦
          let arc : Arc = get_or arcs end none in
          let low : arc.0 < place = ltb-true arc.0 place ((from.splits rise).0 end none (omega arith) early) in
          let high : place + 1 ≤ arc.0 = ltb-false arc.0 (place + 1) ((to.splits rise).1 end none (omega arith) (omega (arith, from.within))) in
          absurd (omega arith)
      | inr fine ↦ fine
    ]

    front : AllWithin (λ (a : Arc). nat_eq a.0 place ≡ false) arcs 0 start
    front k d low high =
        let n : ℕ = (get_or arcs k d).0 in
        let less : n < place = ltb-true n place ((from.splits rise).0 k d low high) in
        ne_eqb n place (λ same. omega arith)

    inside : AllWithin (λ (a : Arc). nat_eq a.0 place ≡ true) arcs start (start + (end - start))
    inside k d low high =
        let le : start ≤ end = up in
        let far : end ≤ length arcs = to.within in
        let n : ℕ = (get_or arcs k d).0 in
        let not_less : place ≤ n = ltb-false n place ((from.splits rise).1 k d low (omega arith)) in
        let not_more : n < place + 1 = ltb-true n (place + 1) ((to.splits rise).0 k d (omega arith) (omega arith)) in
        eq-eqb n place (omega arith)

    behind : AllWithin (λ (a : Arc). nat_eq a.0 place ≡ false) arcs (start + (end - start)) (length arcs)
    behind k d low high =
        let le : start ≤ end = up in
        let n : ℕ = (get_or arcs k d).0 in
        let more : place + 1 ≤ n = ltb-false n (place + 1) ((to.splits rise).1 k d (omega arith) high) in
        ne_eqb n place (λ same. omega arith)

    part : take (end - start) (drop start arcs) ≡ arcs_from place arcs
    part = kept_run (λ (a : Arc). nat_eq a.0 place) arcs start (end - start) front inside behind

-- ---- the arcs of a place rise

arcs_are_ordered : IsStrictWeakOrder (λ (a b : Arc). is_lt (arc_cmp a b))
arcs_are_ordered = ranks_by (then_total (on_total (λ (a : Arc). a.0) nat_cmp_total) (on_total (λ (a : Arc). a.1) nat_cmp_total)) (λ (a : Arc). a)

abbrev NotBelow : Arc → Arc → Type 0
NotBelow a b = is_lt (arc_cmp b a) ≡ false

self_equal : (n : ℕ) → nat_cmp n n ≡ Equal
self_equal n = rw (le-ltb n n (omega arith), eq-eqb n n refl) refl

one_begin : (place : ℕ) (a b : Arc) → nat_eq a.0 place ≡ true → nat_eq b.0 place ≡ true → NotBelow a b → a.1 ≤ b.1
one_begin place a b of_a of_b low =
    let same : b.0 ≡ a.0 = let x = eqb-true a.0 place of_a in let y = eqb-true b.0 place of_b in cc in
    let behind : is_lt (ordering_then (nat_cmp a.0 a.0) (nat_cmp b.1 a.1)) ≡ false = subst (λ (n : ℕ). is_lt (ordering_then (nat_cmp n a.0) (nat_cmp b.1 a.1)) ≡ false) same low in
    let second : is_lt (nat_cmp b.1 a.1) ≡ false = subst (λ (o : Ordering). is_lt (ordering_then o (nat_cmp b.1 a.1)) ≡ false) (self_equal a.0) behind in
    not_less b.1 a.1 second
  where
    not_less : (m n : ℕ) → is_lt (nat_cmp m n) ≡ false → n ≤ m
    not_less m n is = elim (cases_lt m n) [ inl h ↦ absurd (false≢true (sym is ∙ rw (lt-ltb m n h) refl)) | inr h ↦ h ]

arcs_rise : (arcs : List Arc) → IsSorted arc_cmp arcs → (place : ℕ) → IsRising (arcs_from place arcs)
arcs_rise arcs sorted place i j d le small =
    let far : Ascends NotBelow arcs = ascends_from NotBelow arcs (λ i j d low high. sorted_far (λ (a b : Arc). is_lt (arc_cmp a b)) arcs_are_ordered arcs sorted i j d (omega arith) high) in
    let kept : Ascends (λ (a b : Arc). a.1 ≤ b.1) (arcs_from place arcs) = ascends_kept (λ (a : Arc). nat_eq a.0 place) NotBelow (λ (a b : Arc). a.1 ≤ b.1) arcs (one_begin place) far in
    elim (cases_lt i j) [
      | inl low ↦ ascends_at (λ (a b : Arc). a.1 ≤ b.1) (arcs_from place arcs) kept i j d low small
      | inr high ↦ let same : i ≡ j = omega arith in subst (λ (k : ℕ). (get_or (arcs_from place arcs) i d).1 ≤ (get_or (arcs_from place arcs) k d).1) same (omega arith)
    ]

-- ---- arcs that are found

pub are_found : (count : ℕ) (given arcs : List Arc) (starts : List ℕ) → count < 2 ^ 32 → AreWithin count given → IsPermutation given arcs → IsSorted arc_cmp arcs → AreStarts arcs (count + 1) starts → AreFound count arcs starts
are_found count given arcs starts few within permuted sorted are =
    let rise : IsNonDecreasingBy (λ (a : Arc). a.0) arcs = begins_rise arcs sorted in
    record {
      few = few;
      within = All-permutation (λ (a : Arc). (a.0 < count) × (a.1 < count)) given arcs permuted within;
      count_is = are.count_is;
      between = λ place small. between arcs place (get_or starts place 0) (get_or starts (place + 1) 0) rise (are.each place (omega arith)) (are.each (place + 1) (omega arith));
      rising = arcs_rise arcs sorted;
    }
