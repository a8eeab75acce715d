-- The map has the paths so far.
use Rattle.std.proofs.Common.{filter_map, take}
use Rattle.cat_book.specs.Paths.{path_cmp}
use Rattle.obj_beside.specs.Firsts.{AreFirsts}
use Rattle.obj_graph.specs.Links.{relation_at}
use Rattle.obj_beside.proofs.beside.relation_ends.Given as goal

abbrev pub invariant-loop-row : goal.invariant-loop-row
invariant-loop-row l = AreFirsts path_cmp l.ends (filter_map (relation_at l.book) (take l.row-index l.rows))
