-- A line of a list file: what stands before its first semicolon, without the blanks around it.
use Rattle.std.specs.Prelude.{ℕ, ◌+◌, ◌-◌, ◌*◌, Bool, ◌==◌, ◌||◌, ◌&&◌, nat_le, nat_lt, List, [], ◌∷◌, reverse, Option, Some, None, if◌then◌else◌}
use Rattle.std.specs.List.{before_first, slice_split}

-- lines end at line feeds alone
abbrev pub is_newline : ℕ → Bool
is_newline b = b == 10

abbrev pub lines : List ℕ → List (List ℕ)
lines text = slice_split is_newline text

-- the lines of what stands behind a line feed
abbrev pub lines_behind : Option (List ℕ) → List (List ℕ)
lines_behind None = []
lines_behind (Some text) = lines text

abbrev pub is_semicolon : ℕ → Bool
is_semicolon b = b == 59

-- a space or a tab
abbrev pub is_blank : ℕ → Bool
is_blank b = b == 32 || b == 9

abbrev pub without_front : List ℕ → List ℕ
without_front [] = []
without_front (b ∷ rest) = if is_blank b then without_front rest else b ∷ rest

abbrev pub trimmed : List ℕ → List ℕ
trimmed text = reverse (without_front (reverse (without_front text)))

-- what a line says
abbrev pub content : List ℕ → List ℕ
content line = trimmed (before_first is_semicolon line)

-- ---- numbers

abbrev pub is_digit : ℕ → Bool
is_digit b = nat_le 48 b && nat_le b 57

-- the number that digits behind others come to
abbrev pub value_onto : ℕ → List ℕ → ℕ
value_onto n [] = n
value_onto n (b ∷ bs) = value_onto (n * 10 + (b - 48)) bs

-- the number that digits come to, whatever zeros stand before it
abbrev pub value : List ℕ → ℕ
value text = value_onto 0 text

-- the number of 32 bits that a text is
abbrev pub number : List ℕ → Option ℕ
number text = if nat_lt (value text) 4294967296 then Some (value text) else None
