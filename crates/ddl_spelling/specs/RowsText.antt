-- The spelling of COPY.
use Rattle.std.specs.Prelude.{ℕ, List, [], ◌∷◌}

-- the line that ends the rows: a backslash and a dot
abbrev pub last_line : List ℕ
last_line = 92 ∷ 46 ∷ 10 ∷ []
