-- Rows at places, one place after another, and rows found at the places of their oids.
use Rattle.std.proofs.Common.{◌≡◌, ℕ, pos, suc, ◌+◌, ◌<◌, ◌≤◌, Bool, true, false, cond, List, [], ◌∷◌, ◌++◌, length, map, take, Option, Some, None, option_map, refl, sym, ap, ◌∙◌}
use Rattle.std.proofs.Math.ListN.{get_or}
use Rattle.std.proofs.lemmas.List.{take_more, take_all}
use Rattle.std.proofs.lemmas.List.Elements.{filter_map-append}
use Rattle.std.specs.List.{filter_map, find, slice_get}
use Rattle.std.specs.Option.{option_and_then, option_to_list}
use Rattle.cat_names.specs.Lookups.{same_oid, place_of}
use Rattle.oid_groups.specs.Orders.{placed, by_number}

one_given : {B : Type 0} (g : ℕ → Option B) (p : ℕ) (o : Option B) → g p ≡ o → filter_map g (p ∷ []) ≡ option_to_list o
one_given g p None e = rw e refl
one_given g p (Some x) e = rw e refl

-- with what the row at one place more gives
pub place_more : {B : Type 0} (g : ℕ → Option B) (before after : List B) (more : Option B) (places : List ℕ) (i d : ℕ) → before ≡ filter_map g (take i places) → after ≡ before ++ option_to_list more → more ≡ g (get_or places i d) → i < length places → after ≡ filter_map g (take (i + 1) places)
place_more g before after more places i d so added given h =
    added
    ∙ (λ j. so j ++ sym (one_given g (get_or places i d) more (sym given)) j)
    ∙ sym (filter_map-append g (take i places) (get_or places i d ∷ []))
    ∙ ap (filter_map g) (sym (take_more places i d h))

-- behind the last place
pub places_all : {B : Type 0} (g : ℕ → Option B) (all : List B) (places : List ℕ) (i : ℕ) → all ≡ filter_map g (take i places) → length places ≤ i → all ≡ filter_map g places
places_all g all places i so h = so ∙ ap (filter_map g) (take_all i places h)

-- ---- rows by oids

found_at : {R : Type 0} (b : Bool) (row : R) (rows : List R) (p : Option ℕ) (o : Option R) → o ≡ option_and_then (slice_get rows) p
    → cond b (Some row) o ≡ option_and_then (slice_get (row ∷ rows)) (cond b (Some 0) (option_map suc p))
found_at true row rows p o e = refl
found_at false row rows None o e = e
found_at false row rows (Some n) o e = e

-- the first row of an oid is the one at its place among the oids
pub row_at_place : {R : Type 0} (own : R → ℕ) (rows : List R) (oid : ℕ) → find (λ r. same_oid oid (own r)) rows ≡ option_and_then (slice_get rows) (place_of oid (map own rows))
unfolding place_of
row_at_place own [] oid = refl
row_at_place own (row ∷ rows) oid =
    found_at (same_oid oid (own row)) row rows (place_of oid (map own rows)) (find (λ r. same_oid oid (own r)) rows) (row_at_place own rows oid)

placed_first : {R : Type 0} (r : R) (rs : List R) → placed (λ r. pos 0) r rs ≡ r ∷ rs
unfolding placed
placed_first r [] = refl
placed_first r (x ∷ xs) = refl

-- rows of one number stand as they stood
pub by_one_number : {R : Type 0} (rows : List R) → by_number (λ r. pos 0) rows ≡ rows
unfolding by_number
by_one_number [] = refl
by_one_number (r ∷ rs) = ap (placed (λ r. pos 0) r) (by_one_number rs) ∙ placed_first r rs
