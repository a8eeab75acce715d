-- The texts of the worked examples.
-- A line is given by its pieces, and a text by its lines.
use Rattle.std.specs.Prelude.{ℕ, List, [], ◌∷◌, ◌++◌}
use Rattle.std.specs.List.{flat_map, join_with_byte}
use Rattle.copy_text.specs.Marks.{tab, newline}

-- the pieces with a tab between two
abbrev pub line_of : List (List ℕ) → List ℕ
line_of parts = join_with_byte tab parts

-- the lines, each with a newline
abbrev pub text_of : List (List ℕ) → List ℕ
text_of lines = flat_map (λ line. line ++ newline ∷ []) lines
