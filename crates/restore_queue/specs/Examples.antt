-- Worked examples: a table with its rows, an index and two unique constraints, in the order of a list.
use Rattle.std.specs.Prelude.{ℕ, List, [], ◌∷◌, codes}
use Rattle.cat_model.specs.declared.stmt.Stmt.TheVariants as stmt
use Rattle.cat_model.specs.Values.{Bytes}
use Rattle.restore_plan.specs.declared.entry.Entry.{Entry}
use Rattle.restore_plan.specs.declared.kind.Kind.TheVariants as kind
use Rattle.restore_plan.specs.declared.planned.Planned.{Planned}
use Rattle.restore_plan.specs.Examples.{index, path, post_data, rows_of_p, table_p, with_public}
use Rattle.restore_plan.specs.Order.{plan_behind}
use Rattle.restore_core.specs.declared.phase.Phase.{Phase}
use Rattle.restore_core.specs.Machine.{Going, State}

abbrev pub unique : ℕ → Bytes → Entry
unique id name = post_data id kind.Other (7 ∷ []) (stmt.AddUnique (path (codes "p")) name (codes "id" ∷ []) [])

-- the five entries, over an opening without foreign keys
abbrev pub five : List Planned
five = plan_behind [] [] (table_p ∷ rows_of_p (codes "1\n") ∷ index ∷ unique 14 (codes "p_a") ∷ unique 15 (codes "p_b") ∷ [])

abbrev pub entries_at : List Planned → List Phase → List Going
entries_at (p ∷ ps) (f ∷ fs) = record { plan = p; phase = f; notes = [] } ∷ entries_at ps fs
entries_at _ _ = []

abbrev pub at_phases : List Phase → State
at_phases phases = record { catalogue = with_public; entries = entries_at five phases }
