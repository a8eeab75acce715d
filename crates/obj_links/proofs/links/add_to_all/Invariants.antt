-- The links to those so far stand behind the others.
use Rattle.std.proofs.Common.{◌≡◌, ◌++◌, map, take}
use Rattle.obj_graph.specs.Links.{linked}
use Rattle.obj_links.proofs.links.add_to_all.Given as goal

abbrev pub invariant-loop-to : goal.invariant-loop-to
invariant-loop-to l = l.out.items ≡ l.fn.out.items ++ map (linked l.from l.moves_to) (take l.to-index l.ends)
