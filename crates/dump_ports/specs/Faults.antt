-- Counts of faults. A count never falls, and it rises where a call fails; one that stands at the greatest
-- number that it can show counts as having risen, since nobody can tell.
use Rattle.std.specs.Prelude.{ℕ, ◌≡◌, ◌≤◌, ◌+◌, ◌<◌, Result, Ok, Err, min}

-- the greatest number that a count shows
abbrev pub greatest_count : ℕ
greatest_count = 18446744073709551615

-- the count rose, as far as it can show it
abbrev pub HasRisen : ℕ → ℕ → Type 0
HasRisen before after = min (before + 1) greatest_count ≤ after

-- the count didn't rise, and isn't at its greatest
abbrev pub HasNotRisen : ℕ → ℕ → Type 0
HasNotRisen before after = after < min (before + 1) greatest_count

-- a call that answered this leaves its count as it was where it is Ok, and raised it where it failed
abbrev pub CountsFault : {T E : Type 0} → Result T E → ℕ → ℕ → Type 0
CountsFault (Ok x) before after = after ≡ before
CountsFault (Err e) before after = (before ≤ after) × HasRisen before after
