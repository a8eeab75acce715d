-- One token that stands for a value.
use Rattle.std.specs.Prelude.{Bool, false, List, [], ◌∷◌, Option, Some, None, Result, Ok, Err}
use Rattle.ddl_parts.specs.{Lexemes.Lexeme, Parts.Part, Parts.Reading, Parts.one, Parts.stop}

abbrev pub told : {A : Type 0} → Option A → Result A Bool
told None = Err false
told (Some v) = Ok v

-- the value is that of the first of some tokens
abbrev pub by_first : {A : Type 0} → (List Lexeme → Option A) → Part A
by_first value = one (λ t. told (value (t ∷ [])))

-- what is read of some tokens where their first stands for this
abbrev pub answered : {A : Type 0} → Option A → List Lexeme → Reading A
answered None ts = stop ts
answered (Some v) [] = stop []
answered (Some v) (t ∷ ts) = Ok (v, ts)
