-- The rows so far are those of the entries so far.
use Rattle.std.proofs.Common.{◌≡◌, map, take, filter_map}
use Rattle.std.specs.Map.Iter.{deref_pair}
use Rattle.cat_model.specs.declared.key.Key.{Key}
use Rattle.cat_model.specs.declared.value.Value.{Value}
use Rattle.entry_ids.specs.Ids.{of_keys}
use Rattle.named_tables.specs.Cluster.{role_row}
use Rattle.map_export.specs.Making.{AreSaid}
use Rattle.map_export.specs.Things.{role_in}
use Rattle.cluster_loops.proofs.roles.role_rows.Given as goal

abbrev pub invariant-loop-i : goal.invariant-loop-i
invariant-loop-i l = AreSaid (λ r row. row ≡ role_row (of_keys l.ids) r) (filter_map role_in (map (deref_pair {K = Key} {X = Value}) (take l.i l.entries))) l.rows
