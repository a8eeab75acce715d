-- Where tabs and newlines stand among the next bytes of a text, as bits.
use Rattle.std.specs.Prelude.{◌≡◌, ◌≢◌, ◌↔◌, ◌||◌, ℕ, ◌+◌, ◌<◌, ◌≤◌, Bool, List, length, nat_le}
use Rattle.std.specs.Int.{bit_at}
use Rattle.memchr.specs.Find.{Nowhere, Passes, is_byte2}
use Rattle.copy_text.specs.Marks.{tab, newline, backslash, carriage_return}

-- a tab or a newline stands at place k
abbrev pub Separates : List ℕ → ℕ → Type 0
Separates text = Passes (is_byte2 tab newline) text

-- of the first `known` bytes those are tabs and newlines whose bits are set
pub record AreMarks (text : List ℕ) (bits known : ℕ) : Type 0 where
  pub within : known ≤ length text
  pub each : (k : ℕ) → (bit_at bits k ≡ 1) ↔ ((k < known) × Separates text k)

-- the same of the 64 bytes from a place on
abbrev pub AreMarksFrom : List ℕ → ℕ → ℕ → Type 0
AreMarksFrom text at bits = (k : ℕ) → (bit_at bits k ≡ 1) ↔ ((k < 64) × Separates text (at + k))

-- the first tab or newline of a text stands among the 64 bytes from a place on, and these bits mark them
pub record IsFirstMarked (text : List ℕ) (at bits : ℕ) : Type 0 where
  pub room : at + 64 ≤ length text
  pub none : Nowhere (Separates text) 0 at
  pub some : bits ≢ 0
  pub marks : AreMarksFrom text at bits

-- a backslash, a carriage return or a byte of a longer character
abbrev pub is_special : ℕ → Bool
is_special b = is_byte2 backslash carriage_return b || nat_le 128 b
