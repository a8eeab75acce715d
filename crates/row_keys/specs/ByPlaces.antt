-- The keys of rows by the places of their columns.
use Rattle.std.specs.Prelude.{ℕ, List, [], ◌∷◌, map, Option, Some, None}
use Rattle.std.specs.Option.{option_map}
use Rattle.std.specs.List.{position_from, slice_get}
use Rattle.cat_model.specs.declared.value.Column.{Column}
use Rattle.cat_model.specs.Values.{Bytes, Row}
use Rattle.cat_model.specs.Lexemes.{same_text}
use Rattle.cat_model.specs.FieldTypes.{comparable}
use Rattle.cat_model.specs.Tables.{onto}

-- the place of the first column of this name, counted from 0
abbrev pub place_in : List Column → Bytes → Option ℕ
place_in columns name = position_from (same_text name) 0 (map (λ c. c.name) columns)

abbrev pub compared_by : Option (Option Bytes) → Option Column → Option Bytes
compared_by None column = None
compared_by (Some field) None = None
compared_by (Some field) (Some column) = option_map (comparable column.resolved) field

-- the field at a place, as the column there compares it
abbrev pub field_at : List Column → Option ℕ → Row → Option Bytes
field_at columns None row = None
field_at columns (Some place) row = compared_by (slice_get row place) (slice_get columns place)

-- the key in the columns at these places
abbrev pub key_at : List Column → List (Option ℕ) → Row → Option (List Bytes)
key_at columns [] row = Some []
key_at columns (place ∷ places) row = onto (field_at columns place row) (key_at columns places row)
