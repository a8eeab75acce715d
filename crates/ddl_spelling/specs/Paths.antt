-- Paths and lists of names as they are written, and texts one after another.
use Rattle.std.specs.{Prelude.ℕ, Prelude.Bool, Prelude.true, Prelude.false, Prelude.List, Prelude.[], Prelude.◌∷◌, Prelude.◌++◌, Prelude.codes, List.flat_map}
use Rattle.sql_lex.specs.Written.{written_name}
use Rattle.cat_model.specs.declared.object.QName.{QName}

-- a semicolon and a newline
abbrev pub ending : List ℕ
ending = 59 ∷ 10 ∷ []

-- schema, dot, name
unfoldable pub path : QName → List ℕ
path q = written_name q.schema ++ (46 ∷ written_name q.name)

-- names with commas, in brackets
unfoldable pub listed : List (List ℕ) → List ℕ
listed [] = codes "()"
listed (first ∷ more) = (codes "(" ++ written_name first) ++ flat_map (λ n. codes ", " ++ written_name n) more ++ codes ")"

-- the same behind a space, where there are some
abbrev pub some_listed : List (List ℕ) → List ℕ
some_listed [] = []
some_listed (first ∷ more) = codes " " ++ listed (first ∷ more)

-- texts one after another
abbrev pub joined : List (List ℕ) → List ℕ
joined texts = flat_map (λ text. text) texts

-- words that stand under a condition
abbrev pub only_if : Bool → List ℕ → List ℕ
only_if false words = []
only_if true words = words
