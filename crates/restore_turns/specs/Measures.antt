-- How many events are left of a restore at most: an entry is started and then runs its statements, and one that has none
-- ends with one event more.
use Rattle.std.specs.Prelude.{ℕ, ◌+◌, List, [], ◌∷◌, length, drop}
use Rattle.restore_plan.specs.declared.step.Step.{Step}
use Rattle.restore_plan.specs.declared.planned.Planned.{Planned}
use Rattle.restore_core.specs.declared.phase.Phase.{Phase}
use Rattle.restore_core.specs.declared.phase.Phase.TheVariants.{Waiting, Running, Ended}
use Rattle.restore_core.specs.Machine.{Going}

abbrev pub left_in : List Step → Phase → ℕ
left_in steps Waiting = length steps + 2
left_in steps (Running worker run) = length (drop run steps) + 1
left_in steps (Ended status) = 0

abbrev pub left : List Going → ℕ
left [] = 0
left (x ∷ xs) = left_in x.plan.steps x.phase + left xs

-- the same before anything has happened
abbrev pub most_events : List Planned → ℕ
most_events [] = 0
most_events (p ∷ ps) = length p.steps + 2 + most_events ps
