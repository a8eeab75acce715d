-- The rows so far are those of the entries so far.
use Rattle.std.proofs.Common.{◌≡◌, map, take, filter_map}
use Rattle.std.specs.Map.Iter.{deref_pair}
use Rattle.cat_model.specs.declared.key.Key.{Key}
use Rattle.cat_model.specs.declared.value.Value.{Value}
use Rattle.entry_ids.specs.Ids.{of_keys}
use Rattle.named_tables.specs.Cluster.{member_row}
use Rattle.map_export.specs.Making.{AreSaid}
use Rattle.map_export.specs.Things.{member_in}
use Rattle.cluster_loops.proofs.members.member_rows.Given as goal

abbrev pub invariant-loop-i : goal.invariant-loop-i
invariant-loop-i l = AreSaid (λ m row. row ≡ member_row (of_keys l.ids) m) (filter_map member_in (map (deref_pair {K = Key} {X = Value}) (take l.i l.entries))) l.rows
