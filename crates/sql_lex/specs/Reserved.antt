-- The reserved words.
-- A name of one of these spellings is written in quotes.
use Rattle.std.specs.Prelude.{ℕ, Bool, List, [], ◌∷◌, codes}
use Rattle.std.specs.List.{list_any}
use Rattle.std.specs.Str.{bytes_eq}

abbrev pub reserved_words : List (List ℕ)
reserved_words =
    codes "all" ∷ codes "and" ∷ codes "any" ∷ codes "array" ∷ codes "as" ∷ codes "asc" ∷ codes "case" ∷
    codes "cast" ∷ codes "check" ∷ codes "collate" ∷ codes "column" ∷ codes "constraint" ∷
    codes "create" ∷ codes "default" ∷ codes "desc" ∷ codes "distinct" ∷ codes "do" ∷ codes "else" ∷
    codes "end" ∷ codes "except" ∷ codes "false" ∷ codes "fetch" ∷ codes "for" ∷ codes "foreign" ∷
    codes "from" ∷ codes "grant" ∷ codes "group" ∷ codes "having" ∷ codes "in" ∷ codes "into" ∷
    codes "is" ∷ codes "join" ∷ codes "like" ∷ codes "limit" ∷ codes "not" ∷ codes "null" ∷
    codes "offset" ∷ codes "on" ∷ codes "only" ∷ codes "or" ∷ codes "order" ∷ codes "primary" ∷
    codes "references" ∷ codes "select" ∷ codes "table" ∷ codes "then" ∷ codes "to" ∷ codes "true" ∷
    codes "union" ∷ codes "unique" ∷ codes "user" ∷ codes "using" ∷ codes "when" ∷ codes "where" ∷
    codes "window" ∷ codes "with" ∷ []

unfoldable pub is_reserved : List ℕ → Bool
is_reserved name = list_any (λ word. bytes_eq word name) reserved_words
