-- Texts without an escape, gone over field by field: their lines are rows whose fields are the pieces of the line.
use Rattle.std.specs.Prelude.{◌≡◌, ℕ, ◌+◌, ◌==◌, Bool, true, false, List, [], ◌∷◌, length, take, drop}
use Rattle.std.specs.List.{position_or_len}
use Rattle.memchr.specs.Find.{Nowhere, Passes, is_byte2}
use Rattle.copy_text.specs.Marks.{newline, backslash, carriage_return}
use Rattle.copy_text.specs.Pieces.{pieces}
use Rattle.copy_text.specs.Texts.{IsText}

-- neither a backslash nor a carriage return stands in these bytes
abbrev pub IsClear : List ℕ → Type 0
IsClear xs = Nowhere (Passes (is_byte2 backslash carriage_return) xs) 0 (length xs)

-- the same of bytes that are UTF-8
pub record IsClearText (xs : List ℕ) : Type 0 where
  pub utf8 : IsText xs
  pub clear : IsClear xs

-- how long the first line of a text is
abbrev pub line_len : List ℕ → ℕ
line_len xs = position_or_len (λ b. b == newline) xs

-- the first line of a text, without its newline
unfoldable pub first_line : List ℕ → List ℕ
first_line xs = take (line_len xs) xs

-- what stands behind the first line and its newline
unfoldable pub behind_line : List ℕ → List ℕ
behind_line xs = drop (line_len xs + 1) xs

-- The first line of a text begins with this piece. Where there are more, `behind` stands behind the tab, in the line; else the
-- line ends with the piece, and `behind` stands behind the line.
pub record IsFirstField (text piece : List ℕ) (more : Bool) (behind : List ℕ) : Type 0 where
  pub goes_on : more ≡ true → pieces (first_line text) ≡ piece ∷ pieces (first_line behind)
  pub same_line : more ≡ true → behind_line text ≡ behind_line behind
  pub ends : more ≡ false → pieces (first_line text) ≡ piece ∷ []
  pub next_line : more ≡ false → behind_line text ≡ behind
  pub clear : IsClear behind
