-- Fields by their places among those of a line.
use Rattle.std.specs.Prelude.{ℕ, ◌+◌, Bool, true, false, ◌&&◌, ◌==◌, List, [], ◌∷◌, map, Option, Some, None}
use Rattle.std.specs.List.{slice_get}
use Rattle.cat_model.specs.Values.{Bytes, Row}

abbrev pub or_null : Option (Option Bytes) → Option Bytes
or_null (Some field) = field
or_null None = None

-- the field at a place, and null where there is none
abbrev pub field_from : Row → Option ℕ → Option Bytes
field_from fields None = None
field_from fields (Some place) = or_null (slice_get fields place)

-- the fields at these places, and as they are where none are given
abbrev pub ordered_by : Option (List (Option ℕ)) → Row → Row
ordered_by None fields = fields
ordered_by (Some places) fields = map (field_from fields) places

abbrev pub is_at : ℕ → Option ℕ → Bool
is_at n None = false
is_at n (Some place) = place == n

-- the places are n, the next number, and so on
abbrev pub counts_from : ℕ → List (Option ℕ) → Bool
counts_from n [] = true
counts_from n (place ∷ places) = is_at n place && counts_from (n + 1) places
