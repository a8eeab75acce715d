-- Rows that stand for things: each thing has a row, each row is of a thing, and none has two. The order is free.
use Rattle.std.specs.Prelude.{◌≡◌, ℕ, ◌<◌, List, Some}
use Rattle.std.specs.List.{slice_get}

-- the row is one of these
abbrev pub IsAmong : {R : Type 0} → List R → R → Type 0
IsAmong rows row = (i : ℕ) × (slice_get rows i ≡ Some row)

-- which things there are, and what a row of one says
pub record AreRowsOf {T R : Type 0} (There : T → Type 0) (Says : T → R → Type 0) (rows : List R) : Type 0 where
  pub each : (thing : T) → There thing → (row : R) × IsAmong rows row × Says thing row
  pub only : (row : R) → IsAmong rows row → (thing : T) × There thing × Says thing row
  pub once : (i j : ℕ) (earlier later : R) (thing : T) → i < j → slice_get rows i ≡ Some earlier → slice_get rows j ≡ Some later → Says thing earlier → Says thing later → ⊥
