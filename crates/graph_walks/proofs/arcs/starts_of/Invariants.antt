use Rattle.graph_walks.specs.Starts.{AreStarts}
use Rattle.graph_walks.proofs.arcs.starts_of.Given as goal

abbrev pub invariant-loop-place : goal.invariant-loop-place
invariant-loop-place l = AreStarts l.arcs l.place l.starts.items
