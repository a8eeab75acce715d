-- Rows found at the places of their oids, and what rows give up to a place.
use Rattle.std.proofs.Common.{◌≡◌, ℕ, suc, ◌+◌, ◌<◌, nat_lt, Bool, true, false, ◌||◌, cond, List, [], ◌∷◌, ◌++◌, length, map, take, Option, Some, None, option_map, option_and_then, find, get_or, filter_map, refl, sym, ap, ◌∙◌, rules}
use Rattle.std.specs.List.{slice_get, filter}
use Rattle.std.proofs.lemmas.List.{take_more}
use Rattle.std.proofs.lemmas.List.Elements.{filter_map-append}
use Rattle.cat_names.specs.Lookups.{same_oid, has_oid, place_of, count_of}

found_at : {R : Type 0} (b : Bool) (row : R) (rows : List R) (p : Option ℕ) (o : Option R) → o ≡ option_and_then (slice_get rows) p
    → cond b (Some row) o ≡ option_and_then (slice_get (row ∷ rows)) (cond b (Some 0) (option_map suc p))
found_at true row rows p o e = refl
found_at false row rows None o e = e
found_at false row rows (Some n) o e = e

-- the first row of an oid is the one at its place among the oids
pub row_at_place : {R : Type 0} (own : R → ℕ) (rows : List R) (oid : ℕ) → find (λ r. same_oid oid (own r)) rows ≡ option_and_then (slice_get rows) (place_of oid (map own rows))
unfolding place_of
row_at_place own [] oid = refl
row_at_place own (row ∷ rows) oid =
    found_at (same_oid oid (own row)) row rows (place_of oid (map own rows)) (find (λ r. same_oid oid (own r)) rows) (row_at_place own rows oid)

-- an oid is there where it counts
pub has_counted : (oids : List ℕ) (oid : ℕ) → has_oid oids oid ≡ nat_lt 0 (count_of oids oid)
has_counted [] oid = refl
has_counted (o ∷ os) oid = by (same_oid oid o) (has_counted os oid)
  where
    positive : (xs : List ℕ) → nat_lt 0 (length (o ∷ xs)) ≡ true
    positive xs = search rules

    by : (b : Bool) → has_oid os oid ≡ nat_lt 0 (count_of os oid) → (b || has_oid os oid) ≡ nat_lt 0 (length (cond b (o ∷ filter (same_oid oid) os) (filter (same_oid oid) os)))
    by true h = sym (positive (filter (same_oid oid) os))
    by false h = h

-- what the rows up to a place give, and what the row there gives
pub given_more : {A B : Type 0} (f : A → Option B) (rows : List A) (i : ℕ) (row : A) → i < length rows → row ≡ get_or rows i row → filter_map f (take (i + 1) rows) ≡ filter_map f (take i rows) ++ filter_map (λ p. p) (f row ∷ [])
given_more f rows i row h is =
    ap (filter_map f) (take_more rows i row h ∙ ap (λ r. take i rows ++ r ∷ []) (sym is)) ∙ filter_map-append f (take i rows) (row ∷ [])
