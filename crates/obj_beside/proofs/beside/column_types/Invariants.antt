-- The set has the types so far.
use Rattle.std.proofs.Common.{map, take}
use Rattle.cat_names.specs.Indexed.{AreKeys}
use Rattle.obj_graph.specs.RelationLinks.{pair_cmp}
use Rattle.obj_beside.proofs.beside.column_types.Given as goal

abbrev pub invariant-loop-row : goal.invariant-loop-row
invariant-loop-row l = AreKeys pair_cmp l.types (map (λ a. (a.attrelid, a.atttypid)) (take l.row-index l.rows))
