use Rattle.std.proofs.Common.{◌≡◌, map, take}
use Rattle.graph_walks.proofs.telling.cycle_of.Given as goal

abbrev pub invariant-loop-step : goal.invariant-loop-step
invariant-loop-step l = l.cycle.items ≡ map (λ step. step.0) (take l.step-index l.path)
