-- The keys that the rows so far are stand behind the others.
use Rattle.std.proofs.Common.{◌≡◌, ◌++◌, filter_map, take}
use Rattle.obj_graph.specs.ConstraintLinks.{key_constraint}
use Rattle.obj_beside.proofs.keys.add_constraints.Given as goal

abbrev pub invariant-loop-row : goal.invariant-loop-row
invariant-loop-row l = l.keys.items ≡ l.fn.keys.items ++ filter_map key_constraint (take l.row-index l.rows)
