-- The map has the keys so far.
use Rattle.std.proofs.Common.{map, take}
use Rattle.std.specs.Ordering.{nat_cmp}
use Rattle.obj_beside.specs.Firsts.{AreFirsts}
use Rattle.obj_graph.specs.Ids.{constraint_id}
use Rattle.obj_beside.proofs.beside.key_ends.Given as goal

abbrev pub invariant-loop-row : goal.invariant-loop-row
invariant-loop-row l = AreFirsts nat_cmp l.ends (map (λ c. (c.now.conindid, constraint_id c.now.oid)) (take l.row-index l.rows))
