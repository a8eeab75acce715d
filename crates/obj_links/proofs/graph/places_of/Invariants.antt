-- The map has the places so far.
use Rattle.std.proofs.Common.{take}
use Rattle.obj_beside.specs.Firsts.{AreFirsts}
use Rattle.obj_graph.specs.Graphs.{numbered}
use Rattle.obj_graph.specs.Ids.{id_cmp}
use Rattle.obj_links.proofs.graph.places_of.Given as goal

abbrev pub invariant-loop-place : goal.invariant-loop-place
invariant-loop-place l = AreFirsts id_cmp l.places (numbered (take l.place l.objects))
