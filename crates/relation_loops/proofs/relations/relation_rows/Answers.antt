use Rattle.cluster_loops.specs.Ids.{of_keys}
use Rattle.object_rows.specs.Relations.{IsRelationRow}
use Rattle.cluster_loops.proofs.EntryLoops.{one_more}
use Rattle.relation_loops.specs.Wholes.{relation_in}
use Rattle.relation_loops.proofs.relations.relation_rows.Goals as goal

pub loop-i-preserved : goal.loop-i-preserved
loop-i-preserved c =
    one_more (IsRelationRow c.args.named.now (of_keys c.args.ids.now)) c.args.entries.now c.loop-i.i c.index-entries-i.result c.index-entries-i-in-loop-i.result c.loop-i.rows c.push_some.new.rows c.loop-i-test.true c.index-entries-i.is (relation_in c.args.named.now) c.in_ok-entry_row.field-0 c.loop-i.invariant c.in_ok-entry_row.ensures c.in_ok-push_some.ensures
