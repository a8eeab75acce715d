-- Worked examples of the machine: two entries that create one schema, and two that create one each.
use Rattle.std.specs.Prelude.{List, [], ◌∷◌, map, codes}
use Rattle.cat_model.specs.declared.stmt.Stmt.TheVariants as stmt
use Rattle.restore_plan.specs.declared.entry.Entry.{Entry}
use Rattle.restore_plan.specs.declared.kind.Kind.TheVariants as kind
use Rattle.restore_plan.specs.Examples.{with_public, postgres, pre_data, two_schemas}
use Rattle.restore_plan.specs.Order.{plan}
use Rattle.restore_core.specs.declared.event.Event.{Event}
use Rattle.restore_core.specs.declared.event.Event.TheVariants.{Start, Step}
use Rattle.restore_core.specs.declared.phase.Phase.{Phase}
use Rattle.restore_core.specs.Machine.{State, first, after}

-- what a history leads to, for a list of entries
abbrev pub behind : List Entry → List Event → State
behind es events = after postgres (first with_public (plan with_public es)) events

-- where its entries are then
abbrev pub phases : List Entry → List Event → List Phase
phases es events = map (λ x. x.phase) (behind es events).entries

-- ---- one schema twice: the second entry waits for the first

abbrev pub one_after_another : List Event
one_after_another = Start 0 0 ∷ Step 0 ∷ Start 1 1 ∷ Step 1 ∷ []

-- ---- two schemas: two workers run at once, and the second entry ends first

abbrev pub schemas_apart : List Entry
schemas_apart = pre_data 5 kind.Other [] (stmt.CreateSchema (codes "a")) ∷ pre_data 6 kind.Other [] (stmt.CreateSchema (codes "b")) ∷ []

abbrev pub both_at_once : List Event
both_at_once = Start 0 0 ∷ Start 1 1 ∷ Step 1 ∷ Step 0 ∷ []
