-- Which pairs of schema and name a text hits as a pattern, and a name as a quoted pattern writes it.
-- 34 is `"`.
use Rattle.std.specs.Prelude.{ℕ, Bool, false, ◌==◌, List, [], ◌∷◌, ◌++◌, Result, Ok, Err, if◌then◌else◌}
use Rattle.patterns.specs.declared.fault.PatternFault.{PatternFault}
use Rattle.patterns.specs.Parts.{Parts}
use Rattle.patterns.specs.Reading.{pattern_of}
use Rattle.patterns.specs.Matching.{hits}

abbrev pub hit_by : Result Parts PatternFault → List ℕ → List ℕ → Bool
hit_by (Ok pattern) schema name = hits pattern schema name
hit_by (Err fault) schema name = false

-- a text that is no pattern hits nothing
abbrev pub text_hits : List ℕ → List ℕ → List ℕ → Bool
text_hits text schema name = hit_by (pattern_of text) schema name

-- each quote twice
abbrev pub doubled : List ℕ → List ℕ
doubled [] = []
doubled (b ∷ rest) = if b == 34 then b ∷ b ∷ doubled rest else b ∷ doubled rest

abbrev pub quoted : List ℕ → List ℕ
quoted name = 34 ∷ (doubled name ++ 34 ∷ [])
