-- What reading a whole text gives, and how an answer of the code agrees with it.
use Rattle.std.specs.Prelude.{◌≡◌, ℕ, ◌+◌, ◌≤◌, ◌<◌, List, length, Option, Some, None, Result, Ok, Err, if◌then◌else◌, nat_le}
use Rattle.dump_ports.specs.declared.whole.WholeFault.{WholeFault}
use Rattle.dump_ports.specs.declared.whole.WholeFault.TheVariants.{Failed, TooLarge, Memory}
use Rattle.dump_ports.specs.Faults.{HasRisen}

-- the text where it is no longer than the limit, else the limit and one more
abbrev pub within : ℕ → List ℕ → Result (List ℕ) ℕ
within limit text = if nat_le (length text) limit then Ok text else Err (limit + 1)

-- the same where the text may be absent
abbrev pub whole_of : ℕ → Option (List ℕ) → Result (Option (List ℕ)) ℕ
whole_of limit None = Ok None
whole_of limit (Some text) = if nat_le (length text) limit then Ok (Some text) else Err (limit + 1)

-- an answer, seen by view, is the one that is due, or a call failed, or memory ran out
abbrev pub Gives : {X Y : Type 0} → (X → Y) → Result X WholeFault → Result Y ℕ → Type 0
Gives view (Ok x) due = due ≡ Ok (view x)
Gives view (Err (TooLarge n)) due = due ≡ Err n
Gives view (Err Failed) due = Unit {0}
Gives view (Err Memory) due = Unit {0}

-- the count rose where the answer is Failed, and stayed where it isn't
abbrev pub CountsWhole : {X : Type 0} → Result X WholeFault → ℕ → ℕ → Type 0
CountsWhole (Ok x) before after = after ≡ before
CountsWhole (Err (TooLarge n)) before after = after ≡ before
CountsWhole (Err Memory) before after = after ≡ before
CountsWhole (Err Failed) before after = (before ≤ after) × HasRisen before after

-- the fault of a text of this length under a limit, or want of memory
abbrev pub IsTooLarge : ℕ → ℕ → WholeFault → Type 0
IsTooLarge limit len (TooLarge n) = (n ≡ limit + 1) × (limit < len)
IsTooLarge limit len Memory = Unit {0}
IsTooLarge limit len Failed = ⊥
