-- Rows of a table.
use Rattle.std.specs.Prelude.{◌≡◌, ℕ, List, Some}
use Rattle.std.specs.List.{slice_get}

-- a row stands at a place of a table
abbrev pub IsAmong : {R : Type 0} → R → List R → Type 0
IsAmong row rows = (place : ℕ) × (slice_get rows place ≡ Some row)
