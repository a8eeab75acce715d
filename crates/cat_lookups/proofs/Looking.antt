-- What is found of keys that are seen through references.
use Rattle.std.proofs.Common.{◌≡◌, ℕ, Bool, true, false, cond, List, [], ◌∷◌, map, Option, Some, option_map, option_and_then, refl, sym, ap, ◌∙◌, Bor}
use Rattle.std.specs.List.{filter, find, slice_get}
use Rattle.cat_names.specs.Lookups.{same_oid, place_of}
use Rattle.cat_book.specs.Leads.{is_key}
use Rattle.cat_rows.specs.declared.catalogue.Catalogue.{Catalogue}
use Rattle.cat_rows.specs.declared.constraints.ConstraintRow.{ConstraintRow}
use Rattle.cat_lookups.specs.Found.{table_of_key}
use Rattle.cat_lookups.proofs.Finding.{row_at_place, find-filter}

-- a row found through what is seen of it
find-seen : {A B C : Type 0} (see : A → B) (q : B → Bool) (f : B → C) (xs : List A) → option_map (λ x. f (see x)) (find (λ x. q (see x)) xs) ≡ option_map f (find q (map see xs))
find-seen see q f [] = refl
find-seen {A} {B} {C} see q f (x ∷ xs) = by (q (see x)) (find (λ (y : A). q (see y)) xs) (find q (map see xs)) (find-seen see q f xs)
  where
    by : (b : Bool) (o : Option A) (p : Option B) → option_map (λ (y : A). f (see y)) o ≡ option_map f p → option_map (λ (y : A). f (see y)) (cond b (Some x) o) ≡ option_map f (cond b (Some (see x)) p)
    by true o p e = refl
    by false o p e = e

-- the table of the key at the place of an index
pub key_at_place : (cat : Catalogue) (keys : List (Bor ConstraintRow)) (index : ℕ) → map (λ k. k.now) keys ≡ filter is_key cat.pg_constraint
    → option_map (λ k. k.now.conrelid) (option_and_then (slice_get keys) (place_of index (map (λ k. k.now.conindid) keys))) ≡ table_of_key cat index
key_at_place cat keys index are =
    ap (option_map (λ (k : Bor ConstraintRow). k.now.conrelid)) (sym (row_at_place (λ (k : Bor ConstraintRow). k.now.conindid) keys index))
    ∙ find-seen (λ (k : Bor ConstraintRow). k.now) (λ (c : ConstraintRow). same_oid index c.conindid) (λ (c : ConstraintRow). c.conrelid) keys
    ∙ ap (λ (cs : List ConstraintRow). option_map (λ (c : ConstraintRow). c.conrelid) (find (λ (c : ConstraintRow). same_oid index c.conindid) cs)) are
    ∙ ap (option_map (λ (c : ConstraintRow). c.conrelid)) (find-filter is_key (λ (c : ConstraintRow). same_oid index c.conindid) cat.pg_constraint)
