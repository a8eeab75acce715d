-- The spelling of what follows the columns of a key.
use Rattle.std.specs.Prelude.{ℕ, List, [], ◌∷◌, ◌++◌, codes}

-- what follows, behind a space
abbrev pub rest_text : List ℕ → List ℕ
rest_text [] = []
rest_text (b ∷ rest) = codes " " ++ b ∷ rest
