-- The entries that a restore takes, with their rows, as statements; or the fault of the first that can't be restored.
use Rattle.std.specs.Prelude.{ℕ, Bool, List, [], ◌∷◌, drop, Option, None, Result, Ok}
use Rattle.restore_plan.specs.declared.entry.Entry as planned
use Rattle.restore_steps.specs.declared.fault.PlanFault.{PlanFault}
use Rattle.restore_steps.specs.Faults.{entry_due}
use Rattle.restore_steps.specs.Statements.{◌>>=◌}
use Rattle.toc_entry.specs.declared.entry.Entry.{Entry}

-- the rows of the first entry, which has none where no texts are left
abbrev pub first_rows : List (Option (List ℕ)) → Option (List ℕ)
first_rows [] = None
first_rows (rows ∷ texts) = rows

-- entries with their rows, in order, with owners or without; the first fault counts
abbrev pub wanted_due : Bool → List Entry → List (Option (List ℕ)) → Result (List planned.Entry) PlanFault
wanted_due owners [] texts = Ok []
wanted_due owners (e ∷ es) texts = entry_due owners e (first_rows texts) >>= λ x. wanted_due owners es (drop 1 texts) >>= λ xs. Ok (x ∷ xs)
