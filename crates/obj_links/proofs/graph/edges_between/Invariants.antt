-- The edges so far, with those of the links that are left, are those of all.
use Rattle.std.proofs.Common.{◌≡◌, ◌++◌, filter_map}
use Rattle.std.specs.Vec.Iter.{into_iter_items, into_iter_len}
use Rattle.obj_graph.specs.Graphs.{edge_of}
use Rattle.obj_links.proofs.graph.edges_between.Given as goal

abbrev pub invariant-links : goal.invariant-links
invariant-links l = l.edges.items ++ filter_map (edge_of l.objects) (into_iter_items l.left) ≡ filter_map (edge_of l.objects) l.fn.links.items

abbrev pub decreases-links : goal.decreases-links
decreases-links l = into_iter_len l.left
