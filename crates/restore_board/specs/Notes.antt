-- The notes of each entry.
use Rattle.std.specs.Prelude.{ℕ, zero, suc, List, [], ◌∷◌, ◌++◌, map}
use Rattle.std.specs.Global.{Vec}
use Rattle.restore_plan.specs.declared.status.Note.{Note}

-- these notes come behind those of the i-th entry
abbrev pub noted_at : List (List Note) → ℕ → List Note → List (List Note)
noted_at [] i more = []
noted_at (notes ∷ others) zero more = (notes ++ more) ∷ others
noted_at (notes ∷ others) (suc i) more = notes ∷ noted_at others i more

-- all notes, in the order of the entries
abbrev pub all_notes : List (List Note) → List Note
all_notes [] = []
all_notes (notes ∷ others) = notes ++ all_notes others

abbrev pub lists_in : List (Vec Note) → List (List Note)
lists_in vs = map (λ v. v.items) vs
