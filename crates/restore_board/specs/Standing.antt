-- What a contract sees of a board: what it was begun with, and the events that have happened since. Where it stands is the
-- state of the machine that these events lead to.
use Rattle.std.specs.Prelude.{◌≡◌, List, [], ◌∷◌, ◌++◌, Option, Some, None}
use Rattle.cat_model.specs.Values.{Bytes, Named}
use Rattle.restore_plan.specs.declared.planned.Planned.{Planned}
use Rattle.restore_core.specs.declared.event.Event.{Event}
use Rattle.restore_core.specs.Machine.{State, IsLegal, after, first}

-- the catalogue as it was, the role that owns what is created, the entries in their places, and the events in their order
pub record Standing : Type 0 where
  pub opening : Named
  pub boot : Bytes
  pub plan : List Planned
  pub history : List Event

-- nothing has happened
abbrev pub begun : Named → Bytes → List Planned → Standing
begun opening boot plan = record { opening = opening; boot = boot; plan = plan; history = [] }

-- where it stands
abbrev pub state : Standing → State
state s = after s.boot (first s.opening s.plan) s.history

-- each of its events was enabled in its turn
abbrev pub HasLegalHistory : Standing → Type 0
HasLegalHistory s = IsLegal s.boot (first s.opening s.plan) s.history

-- events happen behind those of the history
abbrev pub with_events : List Event → Standing → Standing
with_events events s = record { opening = s.opening; boot = s.boot; plan = s.plan; history = s.history ++ events }

-- one event more happens, or none
abbrev pub with_event : Option Event → Standing → Standing
with_event None s = s
with_event (Some e) s = with_events (e ∷ []) s

-- the same restore, at the same state or a later one
abbrev pub IsLater : Standing → Standing → Type 0
IsLater old new = (events : List Event) × (new ≡ with_events events old)
