-- What a piece stands for: a backslash and what follows it stand for one byte, any other byte for itself.
-- https://www.postgresql.org/docs/16/sql-copy.html, "Text Format"
use Rattle.std.specs.Prelude.{ℕ, zero, suc, ◌+◌, ◌*◌, ◌%◌, List, [], ◌∷◌, ◌++◌, length, take, nat_lt, ◌==◌, ◌&&◌, if◌then◌else◌}
use Rattle.std.specs.List.{fold, take_while}
use Rattle.std.specs.Char.{digit_value, is_digit}
use Rattle.copy_text.specs.Marks.{backslash}

-- the byte that a letter stands for behind a backslash; any other byte stands for itself
abbrev pub byte_of_letter : ℕ → ℕ
byte_of_letter c =
    if c == 98 then 8
    else if c == 102 then 12
    else if c == 110 then 10
    else if c == 114 then 13
    else if c == 116 then 9
    else if c == 118 then 11
    else c

-- the digits in the base at the front, at most `most` of them
abbrev pub front_digits : ℕ → ℕ → List ℕ → List ℕ
front_digits base most bytes = take_while (λ c. is_digit c base) (take most bytes)

-- the byte that digits spell: the number modulo 256
abbrev pub byte_of_digits : ℕ → List ℕ → ℕ
byte_of_digits base digits = fold (λ n c. n * base + digit_value c) 0 digits % 256

-- An escape: the bytes that it stands for, one unless nothing follows the backslash, and how many bytes it has.
pub record Escape : Type 0 where
  pub stands_for : List ℕ
  pub len : ℕ

-- the escape that stands behind a backslash: one to three octal digits, x and one or two hexadecimal digits,
-- or one other byte
unfoldable pub escape : List ℕ → Escape
escape [] = record { stands_for = []; len = 0 }
escape (c ∷ rest) =
    let octal = front_digits 8 3 (c ∷ rest) in
    let hexadecimal = front_digits 16 2 rest in
    if nat_lt 0 (length octal) then record { stands_for = byte_of_digits 8 octal ∷ []; len = length octal }
    else if c == 120 && nat_lt 0 (length hexadecimal) then record { stands_for = byte_of_digits 16 hexadecimal ∷ []; len = length hexadecimal + 1 }
    else record { stands_for = byte_of_letter c ∷ []; len = 1 }

-- what the bytes stand for behind the first `passed` of them
unfoldable pub decode_behind : ℕ → List ℕ → List ℕ
decode_behind passed [] = []
decode_behind (suc passed) (b ∷ rest) = decode_behind passed rest
decode_behind zero (b ∷ rest) =
    if b == backslash then (escape rest).stands_for ++ decode_behind (escape rest).len rest
    else b ∷ decode_behind zero rest

-- the bytes that a piece stands for
abbrev pub decode : List ℕ → List ℕ
decode piece = decode_behind zero piece
