-- Kinds of entries, by what an entry says it is.
use Rattle.std.specs.Prelude.{ℕ, Bool, List, [], ◌∷◌, codes}
use Rattle.std.specs.List.{list_any}
use Rattle.std.specs.Str.{bytes_eq}

abbrev pub is_one_of : List (List ℕ) → List ℕ → Bool
is_one_of names name = list_any (λ other. bytes_eq other name) names

-- what sets up the session
abbrev pub session_kinds : List (List ℕ)
session_kinds = codes "ENCODING" ∷ codes "STDSTRINGS" ∷ codes "SEARCHPATH" ∷ []

-- the database itself
abbrev pub database_kinds : List (List ℕ)
database_kinds = codes "DATABASE" ∷ codes "DATABASE PROPERTIES" ∷ []

-- the rows of a table and the value of a sequence
abbrev pub data_kinds : List (List ℕ)
data_kinds = codes "TABLE DATA" ∷ codes "SEQUENCE SET" ∷ []

-- what has the name of a table, a view or a sequence
abbrev pub relation_kinds : List (List ℕ)
relation_kinds = codes "TABLE" ∷ codes "TABLE DATA" ∷ codes "VIEW" ∷ codes "SEQUENCE" ∷ codes "SEQUENCE SET" ∷ []

abbrev pub is_comment : List ℕ → Bool
is_comment desc = bytes_eq desc (codes "COMMENT")

abbrev pub is_grants : List ℕ → Bool
is_grants desc = bytes_eq desc (codes "ACL")
