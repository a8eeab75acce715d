-- Rows as they are kept.
use Rattle.std.specs.{Prelude.◌≡◌, Prelude.ℕ, Prelude.List, Prelude.[], Prelude.◌∷◌, Prelude.◌++◌, List.flat_map}
use Rattle.copy_text.specs.{Marks.newline, Lines.data_lines}

-- lines, each with a line feed behind it
abbrev pub with_feeds : List (List ℕ) → List ℕ
with_feeds lines = flat_map (λ line. line ++ newline ∷ []) lines

-- the rows of a text: its lines before the line \.; a last row without a line feed is given one
unfoldable pub rows_in : List ℕ → List ℕ
rows_in bytes = with_feeds (data_lines bytes)

-- rows as they are kept: each ends with a line feed, and none is the line \.
abbrev pub AreRows : List ℕ → Type 0
AreRows rows = rows_in rows ≡ rows
