-- The labels at places, place by place.
use Rattle.std.proofs.Common.{◌≡◌, ℕ, ◌+◌, ◌<◌, List, [], ◌∷◌, ◌++◌, length, map, take, Option, Some, None, option_map, filter_map, get_or, refl, sym, ap, ap₂, ◌∙◌, append-nil, Bor}
use Rattle.std.specs.List.{slice_get, cons_option}
use Rattle.std.proofs.lemmas.List.{take_more, map-append}
use Rattle.std.proofs.lemmas.List.Elements.{filter_map-append}
use Rattle.cat_rows.specs.declared.types.EnumRow.{EnumRow}
use Rattle.cat_model.specs.Values.{Bytes}
use Rattle.cat_rows.specs.declared.catalogue.Catalogue.{Catalogue}
use Rattle.oid_groups.specs.Groups.{group_of}
use Rattle.oid_groups.proofs.Rows.{rows_of_group}
use Rattle.type_ends.specs.Ends.{labels_of}
use Rattle.type_ends.specs.Enums.{labels_seen, labels_at, label_keys}

-- the labels up to a place, and that of the row there
labels_more : (rows : List EnumRow) (places : List ℕ) (i : ℕ) → i < length places
    → labels_at rows (take (i + 1) places) ≡ labels_at rows (take i places) ++ labels_at rows (get_or places i 0 ∷ [])
labels_more rows places i h =
    ap (labels_at rows) (take_more places i 0 h)
    ∙ ap (map (λ (e : EnumRow). e.enumlabel)) (filter_map-append (slice_get rows) (take i places) (get_or places i 0 ∷ []))
    ∙ map-append (λ (e : EnumRow). e.enumlabel) (filter_map (slice_get rows) (take i places)) (filter_map (slice_get rows) (get_or places i 0 ∷ []))

abbrev IsLabel : Option (Bor Bytes) → Option EnumRow → Type 0
IsLabel o r = option_map (λ (l : Bor Bytes). l.now) o ≡ option_map (λ (e : EnumRow). e.enumlabel) r

-- a row at the place, whose label is pushed
pub pushed_label : (rows : List EnumRow) (places : List ℕ) (i : ℕ) (labels : List (Bor Bytes)) (l : Bor Bytes) → i < length places
    → labels_seen labels ≡ labels_at rows (take i places) → IsLabel (Some l) (slice_get rows (get_or places i 0))
    → labels_seen (labels ++ l ∷ []) ≡ labels_at rows (take (i + 1) places)
pushed_label rows places i labels l h so_far at =
    map-append (λ (l : Bor Bytes). l.now) labels (l ∷ []) ∙ ap₂ (λ (a b : List Bytes). a ++ b) so_far (by (slice_get rows (get_or places i 0)) at) ∙ sym (labels_more rows places i h)
  where
    by : (r : Option EnumRow) → IsLabel (Some l) r → l.now ∷ [] ≡ map (λ (e : EnumRow). e.enumlabel) (cons_option r [])
    by None e = cc
    by (Some row) e = cc

-- no row there
pub no_label : (rows : List EnumRow) (places : List ℕ) (i : ℕ) (labels : List (Bor Bytes)) → i < length places
    → labels_seen labels ≡ labels_at rows (take i places) → IsLabel None (slice_get rows (get_or places i 0))
    → labels_seen labels ≡ labels_at rows (take (i + 1) places)
no_label rows places i labels h so_far at =
    so_far ∙ sym (append-nil (labels_at rows (take i places))) ∙ ap (λ (b : List Bytes). labels_at rows (take i places) ++ b) (by (slice_get rows (get_or places i 0)) at) ∙ sym (labels_more rows places i h)
  where
    by : (r : Option EnumRow) → IsLabel None r → [] ≡ map (λ (e : EnumRow). e.enumlabel) (cons_option r [])
    by None e = refl
    by (Some row) e = cc

-- the labels at the places of an enum's group are its labels by rising positions
pub labels_of_enum : (cat : Catalogue) (oid : ℕ) → labels_at cat.pg_enum (group_of (label_keys cat.pg_enum) oid) ≡ labels_of cat oid
labels_of_enum cat oid = ap (map (λ (e : EnumRow). e.enumlabel)) (rows_of_group (λ (e : EnumRow). e.enumtypid) (λ (e : EnumRow). e.enumpos) cat.pg_enum oid)
