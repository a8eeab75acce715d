use Rattle.graph_walks.proofs.Walked.{IsWalk, walk_work}
use Rattle.graph_walks.proofs.telling.walk_back.Given as goal

abbrev pub invariant-loop-step : goal.invariant-loop-step
invariant-loop-step l = IsWalk l.arcs.count l.arcs.arcs l.start l.visited.items l.path.items

abbrev pub decreases-loop-step : goal.decreases-loop-step
decreases-loop-step l = walk_work l.arcs.arcs l.visited.items l.path.items
