-- Bytes that a line may hold and still be the one spelling of its row.
use Rattle.std.specs.Prelude.{ℕ, Bool, not, ◌&&◌, ◌||◌, ◌==◌, nat_le, nat_lt}
use Rattle.copy_text.specs.Marks.{tab, newline, backslash}

-- a tab, or a printable byte of ASCII that isn't a backslash: it stands for itself, and is written as it stands
abbrev pub is_own : ℕ → Bool
is_own b = b == tab || (nat_le 32 b && (nat_lt b 127 && not (b == backslash)))

-- the same, or the end of a line
abbrev pub is_own_or_newline : ℕ → Bool
is_own_or_newline b = is_own b || b == newline
