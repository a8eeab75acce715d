-- What a call that writes a statement leaves.
use Rattle.std.specs.Prelude.{◌≡◌, List, ℕ, ◌++◌}

-- what was there before stands at the front
abbrev pub Extends : List ℕ → List ℕ → Type 0
Extends old new = (more : List ℕ) × (new ≡ old ++ more)
