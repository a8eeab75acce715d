-- What each worker runs: by its number the place of an entry, or none.
use Rattle.std.specs.Prelude.{ℕ, Bool, true, false, List, Option, Some, None}
use Rattle.std.specs.List.{slice_get}
use Rattle.std.specs.Option.{option_map_or}
use Rattle.restore_plan.specs.declared.planned.Planned.{Planned}
use Rattle.restore_plan.specs.Order.{clash}

abbrev pub entry_in : List (Option ℕ) → ℕ → Option ℕ
entry_in running worker = option_map_or (λ entry. entry) (slice_get running worker) None

abbrev pub is_any : Option ℕ → Bool
is_any (Some i) = true
is_any None = false

-- an entry and the one that a worker runs lock one same entry
abbrev pub clash_in : List Planned → Planned → Option ℕ → Bool
clash_in plan p (Some j) = option_map_or (clash p) (slice_get plan j) false
clash_in plan p None = false
