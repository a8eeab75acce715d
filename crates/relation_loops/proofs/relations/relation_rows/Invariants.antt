-- The rows so far are those of the entries so far.
use Rattle.std.proofs.Common.{map, take, filter_map}
use Rattle.std.specs.Map.Iter.{deref_pair}
use Rattle.cat_model.specs.declared.key.Key.{Key}
use Rattle.cat_model.specs.declared.value.Value.{Value}
use Rattle.cluster_loops.specs.Ids.{of_keys}
use Rattle.object_rows.specs.Relations.{IsRelationRow}
use Rattle.map_export.specs.Making.{AreSaid}
use Rattle.relation_loops.specs.Wholes.{relation_in}
use Rattle.relation_loops.proofs.relations.relation_rows.Given as goal

abbrev pub invariant-loop-i : goal.invariant-loop-i
invariant-loop-i l = AreSaid (IsRelationRow l.named (of_keys l.ids)) (filter_map (relation_in l.named) (map (deref_pair {K = Key} {X = Value}) (take l.i l.entries))) l.rows
