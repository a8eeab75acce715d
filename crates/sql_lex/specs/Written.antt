-- How a name and a text are written.
-- A name stands bare where it can, else in double quotes; a text stands in single quotes. A quote inside is doubled.
use Rattle.std.specs.Prelude.{ℕ, Bool, false, ◌||◌, ◌&&◌, not, ◌==◌, List, [], ◌∷◌, ◌++◌, if◌then◌else◌}
use Rattle.std.specs.List.{list_all}
use Rattle.std.specs.Char.{is_ascii_lowercase}
use Rattle.sql_lex.specs.Bytes.{is_digit}
use Rattle.sql_lex.specs.Reserved.{is_reserved}

-- a small letter or `_`
unfoldable pub begins_bare : ℕ → Bool
begins_bare b = is_ascii_lowercase b || b == 95

-- these, or a digit
unfoldable pub in_bare : ℕ → Bool
in_bare b = begins_bare b || is_digit b

-- a name that can stand without quotes, but for the reserved words
unfoldable pub is_bare : List ℕ → Bool
is_bare [] = false
is_bare (b ∷ rest) = begins_bare b && list_all in_bare rest

-- each quote twice
unfoldable pub doubled : ℕ → List ℕ → List ℕ
doubled q [] = []
doubled q (b ∷ rest) = if b == q then q ∷ q ∷ doubled q rest else b ∷ doubled q rest

-- in quotes
unfoldable pub quoted : ℕ → List ℕ → List ℕ
quoted q text = q ∷ (doubled q text ++ q ∷ [])

unfoldable pub written_name : List ℕ → List ℕ
written_name name = if is_bare name && not (is_reserved name) then name else quoted 34 name

unfoldable pub written_literal : List ℕ → List ℕ
written_literal text = quoted 39 text
