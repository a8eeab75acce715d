use Rattle.entry_ids.specs.Ids.{of_keys}
use Rattle.named_tables.specs.Cluster.{IsSchemaRow}
use Rattle.map_export.specs.Things.{schema_in}
use Rattle.cluster_loops.proofs.EntryLoops.{one_more}
use Rattle.cluster_loops.proofs.schemas.schema_rows.Goals as goal

pub loop-i-preserved : goal.loop-i-preserved
loop-i-preserved c =
    one_more (IsSchemaRow (of_keys c.args.ids.now)) c.args.entries.now c.loop-i.i c.index-entries-i.result c.index-entries-i-in-loop-i.result c.loop-i.rows c.push_some.new.rows c.loop-i-test.true c.index-entries-i.is (schema_in c.args.named.now) c.in_ok-entry_row.field-0 c.loop-i.invariant c.in_ok-entry_row.ensures c.in_ok-push_some.ensures
