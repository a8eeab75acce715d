-- The classes of bytes in SQL.
-- Each says of one byte whether it is in the class; a byte of 128 up is part of a character that isn't ASCII.
use Rattle.std.specs.Prelude.{ℕ, Bool, false, ◌||◌, not, ◌==◌, nat_le, List, [], ◌∷◌, codes}
use Rattle.std.specs.List.{list_any}
use Rattle.std.specs.Char.{is_ascii_alphabetic, is_ascii_digit}

-- space, tab, line feed, carriage return and form feed
unfoldable pub is_blank : ℕ → Bool
is_blank b = b == 32 || b == 9 || b == 10 || b == 13 || b == 12

unfoldable pub is_digit : ℕ → Bool
is_digit b = is_ascii_digit b

-- a letter, `_`, or a byte that isn't ASCII
unfoldable pub begins_word : ℕ → Bool
begins_word b = is_ascii_alphabetic b || b == 95 || nat_le 128 b

-- these, a digit, or `$`
unfoldable pub in_word : ℕ → Bool
in_word b = begins_word b || is_digit b || b == 36

-- the bytes that are tokens of one byte
unfoldable pub is_sign : ℕ → Bool
is_sign b = list_any (λ s. b == s) (codes "+-*/<>=~!@#%^&|?:;,.()[]")

-- the letter before a literal with escapes, `E` or `e`
unfoldable pub marks_escapes : ℕ → Bool
marks_escapes b = b == 69 || b == 101

-- a byte that doesn't end a line
unfoldable pub in_line : ℕ → Bool
in_line b = not (b == 10)

-- the text begins with a byte of the class
unfoldable pub next_is : (ℕ → Bool) → List ℕ → Bool
next_is p [] = false
next_is p (b ∷ rest) = p b
