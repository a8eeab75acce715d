-- How rows are found by their places.
use Rattle.std.proofs.Common.{◌≡◌, ℕ, suc, pos, Bool, true, false, cond, List, [], ◌∷◌, map, Option, Some, None, option_map, option_and_then, refl, sym, ap, ◌∙◌}
use Rattle.std.specs.Prelude.{◌&&◌}
use Rattle.std.specs.List.{filter, find, filter_map, cons_option, slice_get}
use Rattle.cat_names.specs.Lookups.{same_oid, place_of}
use Rattle.oid_groups.specs.Orders.{placed, by_number}

found_at : {R : Type 0} (b : Bool) (row : R) (rows : List R) (p : Option ℕ) (o : Option R) → o ≡ option_and_then (slice_get rows) p
    → cond b (Some row) o ≡ option_and_then (slice_get (row ∷ rows)) (cond b (Some 0) (option_map suc p))
found_at true row rows p o e = refl
found_at false row rows None o e = e
found_at false row rows (Some n) o e = e

-- the first row of an oid is the one at the oid's place
pub row_at_place : {R : Type 0} (oid_of : R → ℕ) (rows : List R) (oid : ℕ) → find (λ r. same_oid oid (oid_of r)) rows ≡ option_and_then (slice_get rows) (place_of oid (map oid_of rows))
unfolding place_of
row_at_place oid_of [] oid = refl
row_at_place oid_of (row ∷ rows) oid = found_at (same_oid oid (oid_of row)) row rows (place_of oid (map oid_of rows)) (find (λ r. same_oid oid (oid_of r)) rows) (row_at_place oid_of rows oid)

-- the first of the kept ones that passes a test
pub find-filter : {R : Type 0} (p q : R → Bool) (rows : List R) → find q (filter p rows) ≡ find (λ r. p r && q r) rows
find-filter p q [] = refl
find-filter {R} p q (r ∷ rs) = by (p r) ∙ ap (cond (p r && q r) (Some r)) (find-filter p q rs)
  where
    by : (a : Bool) → find q (cond {A = List R} a (r ∷ filter p rs) (filter p rs)) ≡ cond (a && q r) (Some r) (find q (filter p rs))
    by true = refl
    by false = refl

placed_in_front : {R : Type 0} (r : R) (rs : List R) → placed (λ _. pos 0) r rs ≡ r ∷ rs
unfolding placed
placed_in_front r [] = refl
placed_in_front r (s ∷ rs) = refl

-- rows of one number stand as they were
pub by_one_number : {R : Type 0} (rows : List R) → by_number (λ _. pos 0) rows ≡ rows
unfolding by_number placed
by_one_number [] = refl
by_one_number (r ∷ rs) = ap (placed (λ _. pos 0) r) (by_one_number rs) ∙ placed_in_front r rs

joined : {B C : Type 0} (f : B → Option C) (o : Option B) (rest : List B) (rest_given : List C) → filter_map f rest ≡ rest_given → filter_map f (cons_option o rest) ≡ cons_option (option_and_then f o) rest_given
joined f None rest given e = e
joined f (Some x) rest given e = ap (cons_option (f x)) e

-- what the rows at places give
pub given_at : {A B : Type 0} (f : A → Option B) (rows : List A) (places : List ℕ) → filter_map (λ p. option_and_then f (slice_get rows p)) places ≡ filter_map f (filter_map (slice_get rows) places)
given_at f rows [] = refl
given_at {A} {B} f rows (p ∷ ps) = sym (joined f (slice_get rows p) (filter_map (slice_get rows) ps) _ (sym (given_at f rows ps)))
