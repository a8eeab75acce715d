-- The rows of a table, by the groups and first places of their keys.
use Rattle.std.proofs.Common.{◌≡◌, ℕ, suc, ◌+◌, ℤ, Bool, true, false, cond, List, [], ◌∷◌, length, map, Option, Some, None, inl, inr, refl, sym, ap, ◌∙◌, ltb, zero-add, arith}
use Rattle.std.specs.Prelude.{◌&&◌}
use Rattle.std.specs.List.{AllByRecursion, filter, find, filter_map, cons_option, slice_get, position_or_len, enumerate_from}
use Rattle.std.specs.Option.{option_and_then}
use Rattle.std.specs.Ordering.{int_cmp, int_eq, is_le}
use Rattle.std.proofs.lemmas.Bool.{cases_lt, lt-ltb, le-ltb, cond-true, cond-false}
use Rattle.std.proofs.lemmas.List.{length-map}
use Rattle.std.proofs.lemmas.List.Folds.{find_at}
use Rattle.std.proofs.lemmas.Option.{slice_get_past}
use Rattle.oid_groups.specs.Groups.{Key, same_oid, group_of, first_place}
use Rattle.oid_groups.specs.Orders.{placed, by_number}
use Rattle.oid_groups.proofs.OneOrder.{each_kept}
use Rattle.oid_groups.proofs.ByNumber.{each_by_number}
use Rattle.oid_groups.proofs.Found.{position_or_len-map}

-- ---- lists that are seen through a function

filter-map : {X Y : Type 0} (f : X → Y) (p : Y → Bool) (xs : List X) → filter p (map f xs) ≡ map f (filter (λ x. p (f x)) xs)
filter-map f p [] = refl
filter-map {X} {Y} f p (x ∷ xs) =
    ap (λ (rest : List Y). cond (p (f x)) (f x ∷ rest) rest) (filter-map f p xs) ∙ by (p (f x))
  where
    by : (b : Bool) → cond {A = List Y} b (f x ∷ map f (filter (λ x. p (f x)) xs)) (map f (filter (λ x. p (f x)) xs)) ≡ map f (cond {A = List X} b (x ∷ filter (λ x. p (f x)) xs) (filter (λ x. p (f x)) xs))
    by true = refl
    by false = refl

placed-map : {X Y : Type 0} (f : X → Y) (number : Y → ℤ) (x : X) (xs : List X) → placed number (f x) (map f xs) ≡ map f (placed (λ x. number (f x)) x xs)
unfolding placed
placed-map f number x [] = refl
placed-map {X} {Y} f number x (y ∷ ys) =
    ap (λ (rest : List Y). cond (is_le (int_cmp (number (f x)) (number (f y)))) (f x ∷ f y ∷ map f ys) (f y ∷ rest)) (placed-map f number x ys) ∙ by (placed (λ x. number (f x)) x ys) (is_le (int_cmp (number (f x)) (number (f y))))
  where
    by : (rest : List X) (b : Bool) → cond {A = List Y} b (f x ∷ f y ∷ map f ys) (f y ∷ map f rest) ≡ map f (cond {A = List X} b (x ∷ y ∷ ys) (y ∷ rest))
    by rest true = refl
    by rest false = refl

by_number-map : {X Y : Type 0} (f : X → Y) (number : Y → ℤ) (xs : List X) → by_number number (map f xs) ≡ map f (by_number (λ x. number (f x)) xs)
unfolding by_number
by_number-map f number [] = refl
by_number-map f number (x ∷ xs) = ap (placed number (f x)) (by_number-map f number xs) ∙ placed-map f number x (by_number (λ x. number (f x)) xs)

map-map : {X Y Z : Type 0} (f : X → Y) (g : Y → Z) (xs : List X) → map g (map f xs) ≡ map (λ x. g (f x)) xs
map-map f g [] = refl
map-map {X} {Y} {Z} f g (x ∷ xs) = ap (λ (rest : List Z). g (f x) ∷ rest) (map-map f g xs)

-- ---- numbered rows

numbered-map : {X Y : Type 0} (f : X → Y) (n : ℕ) (xs : List X) → enumerate_from n (map f xs) ≡ map (λ (e : ℕ × X). (e.0, f e.1)) (enumerate_from n xs)
numbered-map f n [] = refl
numbered-map {X} {Y} f n (x ∷ xs) = ap (λ (rest : List (ℕ × Y)). (n, f x) ∷ rest) (numbered-map f (n + 1) xs)

unnumbered : {X : Type 0} (n : ℕ) (xs : List X) → map (λ (e : ℕ × X). e.1) (enumerate_from n xs) ≡ xs
unnumbered n [] = refl
unnumbered {X} n (x ∷ xs) = ap (λ (rest : List X). x ∷ rest) (unnumbered (n + 1) xs)

-- each of the numbered rows stands at its place
numbered_stand : {X : Type 0} (all : List X) (n : ℕ) (xs : List X) → ((k : ℕ) → slice_get all (n + k) ≡ slice_get xs k) → AllByRecursion (λ (e : ℕ × X). slice_get all e.0 ≡ Some e.1) (enumerate_from n xs)
numbered_stand all n [] there = tt
numbered_stand all n (x ∷ xs) there =
    let here : n + 0 ≡ n = omega arith in
    let next : (k : ℕ) → slice_get all (n + 1 + k) ≡ slice_get xs k = λ k. let place : n + 1 + k ≡ n + suc k = omega arith in ap (slice_get all) place ∙ there (suc k) in
    (ap (slice_get all) (sym here) ∙ there 0, numbered_stand all (n + 1) xs next)

pub each_stands : {X : Type 0} (rows : List X) → AllByRecursion (λ (e : ℕ × X). slice_get rows e.0 ≡ Some e.1) (enumerate_from 0 rows)
each_stands rows = numbered_stand rows 0 rows (λ k. ap (slice_get rows) (zero-add k))

-- rows at the places of some that stand at theirs are these
at_places : {X : Type 0} (rows : List X) (entries : List (ℕ × X)) → AllByRecursion (λ e. slice_get rows e.0 ≡ Some e.1) entries → filter_map (slice_get rows) (map (λ e. e.0) entries) ≡ map (λ e. e.1) entries
at_places rows [] all = refl
at_places {X} rows (e ∷ es) all =
    ap (λ (o : Option X). cons_option o (filter_map (slice_get rows) (map (λ (e : ℕ × X). e.0) es))) all.0
    ∙ ap (λ (rest : List X). e.1 ∷ rest) (at_places rows es all.1)

-- ---- the rows of an oid

-- The rows at the places of a group are those of the oid, by rising numbers.
pub rows_of_group : {R : Type 0} (oid_of : R → ℕ) (number_of : R → ℤ) (rows : List R) (oid : ℕ) → filter_map (slice_get rows) (group_of (map (λ r. (oid_of r, number_of r)) rows) oid) ≡ by_number number_of (filter (λ r. same_oid oid (oid_of r)) rows)
rows_of_group {R} oid_of number_of rows oid =
    let key : R → Key = λ r. (oid_of r, number_of r) in
    let keyed : ℕ × R → ℕ × Key = λ e. (e.0, key e.1) in
    let row : ℕ × R → R = λ e. e.1 in
    let given : List (ℕ × R) = filter (λ (e : ℕ × R). same_oid oid (oid_of e.1)) (enumerate_from 0 rows) in
    let entries : List (ℕ × R) = by_number (λ (e : ℕ × R). number_of e.1) given in
    let stand : AllByRecursion (λ (e : ℕ × R). slice_get rows e.0 ≡ Some e.1) entries = each_by_number (λ (e : ℕ × R). number_of e.1) (λ e. slice_get rows e.0 ≡ Some e.1) given
    (each_kept (λ (e : ℕ × R). same_oid oid (oid_of e.1)) (λ e. slice_get rows e.0 ≡ Some e.1) (λ e. slice_get rows e.0 ≡ Some e.1) (enumerate_from 0 rows) (λ e holds there. there) (each_stands rows)) in
    let group : group_of (map key rows) oid ≡ map (λ (e : ℕ × R). e.0) entries =
    ap (λ (l : List (ℕ × Key)). map (λ (e : ℕ × Key). e.0) (by_number (λ (e : ℕ × Key). e.1.1) (filter (λ (e : ℕ × Key). same_oid oid e.1.0) l))) (numbered-map key 0 rows)
    ∙ ap (λ (l : List (ℕ × Key)). map (λ (e : ℕ × Key). e.0) (by_number (λ (e : ℕ × Key). e.1.1) l)) (filter-map keyed (λ (e : ℕ × Key). same_oid oid e.1.0) (enumerate_from 0 rows))
    ∙ ap (map (λ (e : ℕ × Key). e.0)) (by_number-map keyed (λ (e : ℕ × Key). e.1.1) given)
    ∙ map-map keyed (λ (e : ℕ × Key). e.0) entries in
    ap (filter_map (slice_get rows)) group
    ∙ at_places rows entries stand
    ∙ sym (by_number-map row number_of given)
    ∙ ap (by_number number_of) (sym (filter-map row (λ (r : R). same_oid oid (oid_of r)) (enumerate_from 0 rows)) ∙ ap (filter (λ (r : R). same_oid oid (oid_of r))) (unnumbered 0 rows))

-- The row at the first place of a key is the first row of this oid and this number.
pub row_at_first : {R : Type 0} (oid_of : R → ℕ) (number_of : R → ℤ) (rows : List R) (oid : ℕ) (number : ℤ) → option_and_then (slice_get rows) (first_place (map (λ r. (oid_of r, number_of r)) rows) oid number) ≡ find (λ r. same_oid oid (oid_of r) && int_eq number (number_of r)) rows
row_at_first {R} oid_of number_of rows oid number =
    let key : R → Key = λ r. (oid_of r, number_of r) in
    let p : Key → Bool = λ k. same_oid oid k.0 && int_eq number k.1 in
    by (position_or_len p (map key rows)) (length (map key rows)) (length-map rows key)
    ∙ ap (slice_get rows) (position_or_len-map key p rows)
    ∙ sym (find_at (λ (r : R). p (key r)) rows)
  where
    by : (i n : ℕ) → n ≡ length rows → option_and_then (slice_get rows) (cond (ltb i n) (Some i) None) ≡ slice_get rows i
    by i n long = elim (cases_lt i n) [
      | inl h ↦ ap (option_and_then (slice_get rows)) (cond-true (ltb i n) (Some i) None (lt-ltb i n h))
      | inr h ↦ ap (option_and_then (slice_get rows)) (cond-false (ltb i n) (Some i) None (le-ltb i n h)) ∙ sym (slice_get_past rows i (omega (arith, long)))
    ]
