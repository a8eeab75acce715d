-- What rows give one after another, and rows found at the places of their oids.
use Rattle.std.proofs.Common.{◌≡◌, ℕ, suc, ◌+◌, ◌<◌, ◌≤◌, Bool, true, false, cond, List, [], ◌∷◌, ◌++◌, length, map, take, Option, Some, None, option_map, option_and_then, find, filter_map, refl, sym, ap, append_assoc, ◌∙◌}
use Rattle.std.specs.List.{slice_get, flat_map}
use Rattle.std.proofs.Math.ListN.{get_or}
use Rattle.std.proofs.lemmas.List.{take_more, take_all, flat_map_more, map_more, append-nil}
use Rattle.std.proofs.lemmas.List.Elements.{filter_map-append}
use Rattle.cat_names.specs.Lookups.{same_oid, place_of}

-- ---- a list from each row

pub lists_none : {R E : Type 0} (f : R → List E) (es : List E) (rows : List R) → es ≡ es ++ flat_map f (take 0 rows)
lists_none f es rows = sym (append-nil es)

pub lists_more : {R E : Type 0} (f : R → List E) (es before after : List E) (rows : List R) (i : ℕ) (row : R) → before ≡ es ++ flat_map f (take i rows) → after ≡ before ++ f row → i < length rows → row ≡ get_or rows i row → after ≡ es ++ flat_map f (take (i + 1) rows)
lists_more {R} {E} f es before after rows i row so added h is =
    added
    ∙ ap (λ b. b ++ f row) so
    ∙ flat_map_more f es (take i rows) row
    ∙ ap (λ rs. es ++ flat_map f rs) (ap (λ r. take i rows ++ r ∷ []) is ∙ sym (take_more rows i row h))

pub lists_all : {R E : Type 0} (f : R → List E) (es all : List E) (rows : List R) (i : ℕ) → all ≡ es ++ flat_map f (take i rows) → length rows ≤ i → all ≡ es ++ flat_map f rows
lists_all f es all rows i so h = so ∙ ap (λ rs. es ++ flat_map f rs) (take_all i rows h)

-- ---- at most one from each row

-- what the rows up to a place give, and what the row there gives
pub given_more : {A B : Type 0} (f : A → Option B) (rows : List A) (i : ℕ) (row : A) → i < length rows → row ≡ get_or rows i row → filter_map f (take (i + 1) rows) ≡ filter_map f (take i rows) ++ filter_map (λ p. p) (f row ∷ [])
given_more f rows i row h is =
    ap (filter_map f) (take_more rows i row h ∙ ap (λ r. take i rows ++ r ∷ []) (sym is)) ∙ filter_map-append f (take i rows) (row ∷ [])

pub some_none : {A B : Type 0} (f : A → Option B) (es : List B) (rows : List A) → es ≡ es ++ filter_map f (take 0 rows)
some_none f es rows = sym (append-nil es)

pub some_more : {A B : Type 0} (f : A → Option B) (es before after : List B) (o : Option B) (rows : List A) (i : ℕ) (row : A) → before ≡ es ++ filter_map f (take i rows) → after ≡ before ++ filter_map (λ p. p) (o ∷ []) → o ≡ f row → i < length rows → row ≡ get_or rows i row → after ≡ es ++ filter_map f (take (i + 1) rows)
some_more f es before after o rows i row so added e h is =
    added
    ∙ ap (λ b. b ++ filter_map (λ p. p) (o ∷ [])) so
    ∙ append_assoc es (filter_map f (take i rows)) (filter_map (λ p. p) (o ∷ []))
    ∙ ap (λ ys. es ++ ys) (ap (λ p. filter_map f (take i rows) ++ filter_map (λ p. p) (p ∷ [])) e ∙ sym (given_more f rows i row h is))

pub some_all : {A B : Type 0} (f : A → Option B) (es all : List B) (rows : List A) (i : ℕ) → all ≡ es ++ filter_map f (take i rows) → length rows ≤ i → all ≡ es ++ filter_map f rows
some_all f es all rows i so h = so ∙ ap (λ rs. es ++ filter_map f rs) (take_all i rows h)

-- ---- one from each row

-- what the rows up to a place give, and what the row there gives
pub mapped_more : {A B : Type 0} (f : A → B) (rows : List A) (i : ℕ) (row : A) → i < length rows → row ≡ get_or rows i row → map f (take (i + 1) rows) ≡ map f (take i rows) ++ f row ∷ []
mapped_more f rows i row h is = map_more f rows i row h ∙ ap (λ r. map f (take i rows) ++ f r ∷ []) (sym is)

pub each_none : {A B : Type 0} (f : A → B) (es : List B) (rows : List A) → es ≡ es ++ map f (take 0 rows)
each_none f es rows = sym (append-nil es)

pub each_more : {A B : Type 0} (f : A → B) (es before after : List B) (o : B) (rows : List A) (i : ℕ) (row : A) → before ≡ es ++ map f (take i rows) → after ≡ before ++ o ∷ [] → o ≡ f row → i < length rows → row ≡ get_or rows i row → after ≡ es ++ map f (take (i + 1) rows)
each_more f es before after o rows i row so added e h is =
    added
    ∙ ap (λ b. b ++ o ∷ []) so
    ∙ append_assoc es (map f (take i rows)) (o ∷ [])
    ∙ ap (λ ys. es ++ ys) (ap (λ p. map f (take i rows) ++ p ∷ []) e ∙ sym (mapped_more f rows i row h is))

pub each_all : {A B : Type 0} (f : A → B) (es all : List B) (rows : List A) (i : ℕ) → all ≡ es ++ map f (take i rows) → length rows ≤ i → all ≡ es ++ map f rows
each_all f es all rows i so h = so ∙ ap (λ rs. es ++ map f rs) (take_all i rows h)

-- what rows behind references give is what the rows give
pub map_through : {A B C : Type 0} (g : A → B) (f : B → C) (xs : List A) → map (λ x. f (g x)) xs ≡ map f (map g xs)
map_through g f [] = refl
map_through g f (x ∷ xs) = ap (λ ys. f (g x) ∷ ys) (map_through g f xs)

-- ---- rows by oids

found_at : {R : Type 0} (b : Bool) (row : R) (rows : List R) (p : Option ℕ) (o : Option R) → o ≡ option_and_then (slice_get rows) p
    → cond b (Some row) o ≡ option_and_then (slice_get (row ∷ rows)) (cond b (Some 0) (option_map suc p))
found_at true row rows p o e = refl
found_at false row rows None o e = e
found_at false row rows (Some n) o e = e

-- the first row of an oid is the one at its place among the oids
pub row_at_place : {R : Type 0} (own : R → ℕ) (rows : List R) (oid : ℕ) → find (λ r. same_oid oid (own r)) rows ≡ option_and_then (slice_get rows) (place_of oid (map own rows))
unfolding place_of
row_at_place own [] oid = refl
row_at_place own (row ∷ rows) oid =
    found_at (same_oid oid (own row)) row rows (place_of oid (map own rows)) (find (λ r. same_oid oid (own r)) rows) (row_at_place own rows oid)
