use Rattle.object_export.specs.Relations.{IsSequenceRow}
use Rattle.object_loops.specs.Oids.{with_numbers}
use Rattle.object_export.specs.Parts.{sequence_in}
use Rattle.cluster_loops.proofs.EntryLoops.{one_more}
use Rattle.object_loops.proofs.sequences.sequence_rows.Goals as goal

pub loop-i-preserved : goal.loop-i-preserved
loop-i-preserved c = λ owned.
    one_more (IsSequenceRow c.args.named.now (with_numbers c.args.ids.now c.args.numbers.now)) c.args.entries.now c.loop-i.i c.index-entries-i.result c.index-entries-i-in-loop-i.result c.loop-i.rows c.push_some.new.rows c.loop-i-test.true c.index-entries-i.is (sequence_in c.args.named.now) c.in_ok-entry_row.field-0 (c.loop-i.invariant owned)
    (c.in_ok-entry_row.ensures owned)
    c.in_ok-push_some.ensures
