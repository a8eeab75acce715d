-- Pieces that stand for themselves where their line reads.
use Rattle.std.specs.Prelude.{◌≡◌, ℕ, List, [], ◌∷◌, take, Option, None, Some, Ok}
use Rattle.std.specs.List.{slice_get}
use Rattle.copy_text.specs.Pieces.{pieces, IsFirstPiece}
use Rattle.copy_text.specs.Reading.{field_of}
use Rattle.copy_text.specs.Rows.{Field}

-- the piece spells a field, if any, by its bytes as they are
abbrev pub StandsForItself : List ℕ → Type 0
StandsForItself piece = (start : ℕ) (field : Field) → field_of start piece ≡ Ok field → field ≡ Some piece

-- the first piece of a line has n bytes, and stands for itself
pub record IsRawFirst (line : List ℕ) (n : ℕ) : Type 0 where
  pub piece : IsFirstPiece line n
  pub stands : StandsForItself (take n line)

-- the line has this piece in front, which stands for itself
pub record IsFirst (line piece : List ℕ) : Type 0 where
  pub first : slice_get (pieces line) 0 ≡ Some piece
  pub stands : StandsForItself piece

-- the line has a piece in front of those of what stands behind it
pub record IsBehindFirst (line behind : List ℕ) : Type 0 where
  pub piece : List ℕ
  pub parts : pieces line ≡ piece ∷ pieces behind

-- the pieces of what stands behind a tab; none where there is no tab
abbrev pub pieces_left : Option (List ℕ) → List (List ℕ)
pieces_left None = []
pieces_left (Some behind) = pieces behind
