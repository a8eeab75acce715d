-- The links to those so far stand behind the others.
use Rattle.std.proofs.Common.{◌≡◌, ◌++◌, map, take}
use Rattle.obj_graph.specs.RelationLinks.{body_link}
use Rattle.obj_links.proofs.relation_links.add_body_links.Given as goal

abbrev pub invariant-loop-to : goal.invariant-loop-to
invariant-loop-to l = l.out.items ≡ l.fn.out.items ++ map (body_link l.beside l.row) (take l.to-index l.ends)
