use Rattle.std.proofs.Common.{◌≡◌, arith}
use Rattle.cluster_loops.specs.Ids.{oids_of}
use Rattle.object_export.specs.Types.{NamedLabel, label_row}
use Rattle.object_export.specs.Parts.{labels_in}
use Rattle.cluster_loops.proofs.EntryLoops.{seen}
use Rattle.object_loops.proofs.Passes.{several_more, lists_end}
use Rattle.object_loops.proofs.labels.label_rows.Goals as goal

pub loop-i-preserved : goal.loop-i-preserved
loop-i-preserved c = λ number.
    several_more (λ (t : NamedLabel) row. row ≡ label_row (oids_of c.args.ids.now number) t) c.args.entries.now c.loop-i.i c.index-entries-i.result c.index-entries-i-in-loop-i.result c.loop-i.rows c.add_entry.new.rows c.loop-i-test.true c.index-entries-i.is labels_in (c.loop-i.invariant number) (c.in_ok-add_entry.ensures number)

pub returns : goal.returns
returns c = λ number.
    lists_end (λ (t : NamedLabel) row. row ≡ label_row (oids_of c.args.ids.now number) t) labels_in seen c.args.entries.now c.loop-i.i c.loop-i.rows (omega arith) (c.loop-i.invariant number)
