-- The labels of enums: how the code holds them, and how they are found by the places of their rows.
use Rattle.std.specs.Prelude.{ℕ, ℤ, List, map}
use Rattle.std.specs.Borrow.{Bor}
use Rattle.std.specs.List.{filter_map, slice_get}
use Rattle.cat_rows.specs.declared.types.EnumRow.{EnumRow}
use Rattle.cat_model.specs.Values.{Bytes}

-- the labels of the code as the list of their bytes
abbrev pub labels_seen : List (Bor Bytes) → List Bytes
labels_seen labels = map (λ l. l.now) labels

-- the enum of each label, and the label's position
abbrev pub label_keys : List EnumRow → List (ℕ × ℤ)
label_keys rows = map (λ e. (e.enumtypid, e.enumpos)) rows

-- the labels of the rows at these places
abbrev pub labels_at : List EnumRow → List ℕ → List Bytes
labels_at rows places = map (λ e. e.enumlabel) (filter_map (slice_get rows) places)
