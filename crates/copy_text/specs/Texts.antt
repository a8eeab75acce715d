-- Which bytes are a name and which are a text, in PostgreSQL's terms: a name is what the system tables keep
-- of an identifier, a text is a field of a row.
use Rattle.std.specs.Prelude.{ℕ, ◌≢◌, ◌<◌, ◌≤◌, Bool, not, ◌&&◌, ◌==◌, nat_lt, nat_le, List, length, All}
use Rattle.std.specs.List.{list_any}
use Rattle.std.specs.Str.{IsUtf8, is_utf8}

-- a text is any bytes that are UTF-8
abbrev pub IsText : List ℕ → Type 0
IsText bytes = IsUtf8 bytes

-- a name is UTF-8 too, of 1 to 63 bytes, none of which is 0
pub record IsName (bytes : List ℕ) : Type 0 where
  pub some : 0 < length bytes
  pub short : length bytes ≤ 63
  pub utf8 : IsUtf8 bytes
  pub no_zero : All (λ b. b ≢ 0) bytes

-- the same as tests
abbrev pub is_text : List ℕ → Bool
is_text bytes = is_utf8 bytes

abbrev pub is_name : List ℕ → Bool
is_name bytes = nat_lt 0 (length bytes) && nat_le (length bytes) 63 && is_utf8 bytes && not (list_any (λ b. b == 0) bytes)
