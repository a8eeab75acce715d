use Rattle.std.proofs.Common.{take}
use Rattle.graph_walks.specs.Searching.{AreClosed}
use Rattle.graph_walks.proofs.components.close_places.Given as goal

abbrev pub invariant-loop-place : goal.invariant-loop-place
invariant-loop-place l = AreClosed (take l.place-index l.places) l.mark l.fn.statuses l.statuses l.fn.marks l.marks
