-- What the rows at places give, one place after another.
use Rattle.std.proofs.Common.{◌≡◌, ℕ, ◌+◌, ◌<◌, ◌≤◌, List, [], ◌∷◌, ◌++◌, length, take, Option, Some, None, option_and_then, refl, sym, ap, ◌∙◌}
use Rattle.std.proofs.Math.ListN.{get_or}
use Rattle.std.proofs.lemmas.List.{take_more, take_all}
use Rattle.std.proofs.lemmas.List.Elements.{filter_map-append}
use Rattle.std.specs.List.{filter_map, slice_get}
use Rattle.std.specs.Option.{option_to_list}
use Rattle.cat_rows.specs.declared.catalogue.Catalogue.{Catalogue}
use Rattle.oid_groups.specs.Groups.{group_of}
use Rattle.oid_groups.proofs.Rows.{rows_of_group}
use Rattle.cat_naming.specs.Relations.{column_of, columns_of}
use Rattle.cat_lookups.specs.Beside.{column_keys}
use Rattle.cat_lookups.proofs.Finding.{given_at}

one_given : {B : Type 0} (g : ℕ → Option B) (p : ℕ) (o : Option B) → g p ≡ o → filter_map g (p ∷ []) ≡ option_to_list o
one_given g p None e = rw e refl
one_given g p (Some x) e = rw e refl

-- with what the row at one place more gives
pub place_more : {B : Type 0} (g : ℕ → Option B) (before after : List B) (more : Option B) (places : List ℕ) (i d : ℕ) → before ≡ filter_map g (take i places) → after ≡ before ++ option_to_list more → more ≡ g (get_or places i d) → i < length places → after ≡ filter_map g (take (i + 1) places)
place_more g before after more places i d so added given h =
    added
    ∙ (λ j. so j ++ sym (one_given g (get_or places i d) more (sym given)) j)
    ∙ sym (filter_map-append g (take i places) (get_or places i d ∷ []))
    ∙ ap (filter_map g) (sym (take_more places i d h))

-- behind the last place
pub places_all : {B : Type 0} (g : ℕ → Option B) (all : List B) (places : List ℕ) (i : ℕ) → all ≡ filter_map g (take i places) → length places ≤ i → all ≡ filter_map g places
places_all g all places i so h = so ∙ ap (filter_map g) (take_all i places h)

-- the columns at the places of a table's columns are its columns
pub columns_listed : (cat : Catalogue) (table : ℕ) (places : List ℕ) → places ≡ group_of (column_keys cat) table → filter_map (λ p. option_and_then (column_of cat) (slice_get cat.pg_attribute p)) places ≡ columns_of cat table
columns_listed cat table places is =
    given_at (column_of cat) cat.pg_attribute places
    ∙ ap (λ ps. filter_map (column_of cat) (filter_map (slice_get cat.pg_attribute) ps)) is
    ∙ ap (filter_map (column_of cat)) (rows_of_group (λ a. a.attrelid) (λ a. a.attnum) cat.pg_attribute table)
