-- Pieces that stand for themselves.
use Rattle.std.specs.Prelude.{◌≡◌, ℕ, List, take, Some, Ok}
use Rattle.copy_text.specs.Texts.{IsText}
use Rattle.copy_text.specs.Pieces.{IsFirstPiece}
use Rattle.copy_text.specs.Reading.{field_of}

-- the first piece of a line has n bytes, and where they are a text it spells them
pub record IsPlainFirst (line : List ℕ) (n : ℕ) : Type 0 where
  pub piece : IsFirstPiece line n
  pub spells : IsText (take n line) → (start : ℕ) → field_of start (take n line) ≡ Ok (Some (take n line))
