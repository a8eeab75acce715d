-- The pieces of a line, of which each spells one field: a line is cut at each tab that no backslash escapes.
-- A backslash escapes the byte behind it, be it a backslash or a tab.
use Rattle.std.specs.Prelude.{◌≡◌, ℕ, ◌+◌, ◌<◌, ◌≤◌, Bool, true, false, List, [], ◌∷◌, length, take, drop, ◌==◌, if◌then◌else◌}
use Rattle.std.specs.List.{onto_first}
use Rattle.copy_text.specs.Marks.{tab, backslash}

-- the pieces of the rest of a line, whose first byte is escaped or not
unfoldable pub pieces_after : Bool → List ℕ → List (List ℕ)
pieces_after escaped [] = [] ∷ []
pieces_after true (b ∷ rest) = onto_first b (pieces_after false rest)
pieces_after false (b ∷ rest) =
    if b == tab then [] ∷ pieces_after false rest else onto_first b (pieces_after (b == backslash) rest)

abbrev pub pieces : List ℕ → List (List ℕ)
pieces line = pieces_after false line

-- whether what follows a byte that escapes or not ends in a backslash that escapes nothing
unfoldable pub ends_escaping : Bool → List ℕ → Bool
ends_escaping escaping [] = escaping
ends_escaping true (b ∷ rest) = ends_escaping false rest
ends_escaping false (b ∷ rest) = ends_escaping (b == backslash) rest

-- whether the last byte is a backslash that no backslash escapes
abbrev pub ends_in_backslash : List ℕ → Bool
ends_in_backslash bytes = ends_escaping false bytes

-- the first piece of a line has n bytes
pub record IsFirstPiece (line : List ℕ) (n : ℕ) : Type 0 where
  pub within : n ≤ length line
  pub last : n ≡ length line → pieces line ≡ line ∷ []
  pub cut : n < length line → pieces line ≡ take n line ∷ pieces (drop (n + 1) line)
