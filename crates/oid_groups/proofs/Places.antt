-- The places of a group: each is that of a key of the oid, and no two are one.
use Rattle.std.proofs.Common.{◌≡◌, ℕ, ◌+◌, ◌<◌, Bool, true, false, List, [], ◌∷◌, map, Option, Some, sym, subst, ◌∙◌, arith}
use Rattle.std.specs.Prelude.{ℤ, nat_eq}
use Rattle.std.specs.List.{All, AllByRecursion, IsDistinct, filter, slice_get, enumerate_from}
use Rattle.std.specs.Option.{IsSomeAnd}
use Rattle.std.specs.Ordering.{int_cmp, is_le}
use Rattle.std.specs.Cmp.{unsigned_tied}
use Rattle.std.proofs.lemmas.Bool.{cond_both, eqb-true, ne_eqb}
use Rattle.std.proofs.lemmas.Cmp.{nat_eq_equiv}
use Rattle.std.proofs.lemmas.List.Elements.{All-from_recursion, All-map}
use Rattle.oid_groups.specs.Groups.{Key, numbered_keys, same_oid, group_of}
use Rattle.oid_groups.specs.Orders.{placed, by_number}
use Rattle.oid_groups.proofs.OneOrder.{each_kept}
use Rattle.oid_groups.proofs.ByNumber.{each_placed, each_by_number}
use Rattle.oid_groups.proofs.Rows.{each_stands}

pub places_are_of_oid : (keys : List Key) (oid : ℕ) → All (λ place. IsSomeAnd (slice_get keys place) (λ key. key.0 ≡ oid)) (group_of keys oid)
places_are_of_oid keys oid =
    let number : ℕ × Key → ℤ = λ e. e.1.1 in
    let p : ℕ × Key → Bool = λ e. same_oid oid e.1.0 in
    let Stands : ℕ × Key → Type 0 = λ e. slice_get keys e.0 ≡ Some e.1 in
    let OfOid : ℕ × Key → Type 0 = λ e. IsSomeAnd (slice_get keys e.0) (λ key. key.0 ≡ oid) in
    let of_oid : (e : ℕ × Key) → p e ≡ true → Stands e → OfOid e = λ e holds there.
    let same : oid ≡ e.1.0 = eqb-true oid e.1.0 (sym (unsigned_tied oid e.1.0) ∙ holds) in
    subst (λ (o : Option Key). IsSomeAnd o (λ (key : Key). key.0 ≡ oid)) (sym there) (sym same) in
    let entries : List (ℕ × Key) = by_number number (filter p (numbered_keys keys)) in
    All-map (λ place. IsSomeAnd (slice_get keys place) (λ key. key.0 ≡ oid)) (λ (e : ℕ × Key). e.0) entries
    (All-from_recursion OfOid entries (each_by_number number OfOid (filter p (numbered_keys keys)) (each_kept p Stands OfOid (numbered_keys keys) of_oid (each_stands keys))))

-- ---- no two are one

abbrev same_place : {X : Type 0} → ℕ × X → ℕ × X → Bool
same_place a b = nat_eq a.0 b.0

above : {X : Type 0} (low n : ℕ) (xs : List X) → low < n → AllByRecursion (λ (e : ℕ × X). nat_eq low e.0 ≡ false) (enumerate_from n xs)
above low n [] less = tt
above low n (x ∷ xs) less = (ne_eqb low n (λ same. omega arith), above low (n + 1) xs (omega arith))

distinct_numbered : {X : Type 0} (n : ℕ) (xs : List X) → IsDistinct (same_place {X = X}) (enumerate_from n xs)
unfolding IsDistinct
distinct_numbered n [] = tt
distinct_numbered n (x ∷ xs) = (above n (n + 1) xs (omega arith), distinct_numbered (n + 1) xs)

distinct_kept : {X : Type 0} (same : X → X → Bool) (p : X → Bool) (xs : List X) → IsDistinct same xs → IsDistinct same (filter p xs)
unfolding IsDistinct
distinct_kept same p [] distinct = tt
distinct_kept same p (x ∷ xs) distinct =
    let rest = distinct_kept same p xs distinct.1 in
    cond_both (p x) (x ∷ filter p xs) (filter p xs) (IsDistinct same) (λ holds. (each_kept p (λ y. same x y ≡ false) (λ y. same x y ≡ false) xs (λ y kept other. other) distinct.0, rest)) (λ fails. rest)

distinct_placed : {X : Type 0} (number : X → ℤ) (same : X → X → Bool) → ((x y : X) → same x y ≡ same y x) → (x : X) (xs : List X) → AllByRecursion (λ y. same x y ≡ false) xs → IsDistinct same xs → IsDistinct same (placed number x xs)
unfolding placed IsDistinct
distinct_placed number same both x [] other distinct = (tt, tt)
distinct_placed number same both x (y ∷ ys) other distinct =
    cond_both (is_le (int_cmp (number x) (number y))) (x ∷ y ∷ ys) (y ∷ placed number x ys) (IsDistinct same)
    (λ le. (other, distinct))
    (λ gt. (each_placed number (λ z. same y z ≡ false) x ys (both y x ∙ other.0) distinct.0, distinct_placed number same both x ys other.1 distinct.1))

distinct_by_number : {X : Type 0} (number : X → ℤ) (same : X → X → Bool) → ((x y : X) → same x y ≡ same y x) → (xs : List X) → IsDistinct same xs → IsDistinct same (by_number number xs)
unfolding by_number IsDistinct
distinct_by_number number same both [] distinct = tt
distinct_by_number number same both (x ∷ xs) distinct =
    distinct_placed number same both x (by_number number xs) (each_by_number number (λ y. same x y ≡ false) xs distinct.0) (distinct_by_number number same both xs distinct.1)

places_differ : {X : Type 0} (place : ℕ) (entries : List (ℕ × X)) → AllByRecursion (λ (e : ℕ × X). nat_eq place e.0 ≡ false) entries → AllByRecursion (λ n. nat_eq place n ≡ false) (map (λ (e : ℕ × X). e.0) entries)
places_differ place [] all = tt
places_differ place (e ∷ es) all = (all.0, places_differ place es all.1)

distinct_places : {X : Type 0} (entries : List (ℕ × X)) → IsDistinct (same_place {X = X}) entries → IsDistinct nat_eq (map (λ (e : ℕ × X). e.0) entries)
unfolding IsDistinct
distinct_places [] distinct = tt
distinct_places (e ∷ es) distinct = (places_differ e.0 es distinct.0, distinct_places es distinct.1)

pub places_are_distinct : (keys : List Key) (oid : ℕ) → IsDistinct nat_eq (group_of keys oid)
places_are_distinct keys oid =
    let number : ℕ × Key → ℤ = λ e. e.1.1 in
    let p : ℕ × Key → Bool = λ e. same_oid oid e.1.0 in
    let same : ℕ × Key → ℕ × Key → Bool = same_place in
    distinct_places (by_number number (filter p (numbered_keys keys)))
    (distinct_by_number number same (λ a b. nat_eq_equiv.symm a.0 b.0) (filter p (numbered_keys keys)) (distinct_kept same p (numbered_keys keys) (distinct_numbered 0 keys)))
