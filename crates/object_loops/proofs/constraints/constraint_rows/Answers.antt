use Rattle.std.proofs.Common.{arith}
use Rattle.cat_names.specs.Naming.{Entry}
use Rattle.cat_sound.specs.Itself.{Itself}
use Rattle.cluster_loops.specs.Ids.{oids_of}
use Rattle.object_export.specs.Constraints.{IsConstrainedRow}
use Rattle.sound_texts.specs.Grammar.{grammar}
use Rattle.object_export.specs.Parts.{constrained_in}
use Rattle.cluster_loops.proofs.EntryLoops.{read_good, seen}
use Rattle.object_loops.proofs.Passes.{several_more, lists_end}
use Rattle.object_loops.proofs.constraints.constraint_rows.Goals as goal

pub loop-i-preserved : goal.loop-i-preserved
loop-i-preserved c = λ number all.
    several_more (IsConstrainedRow (oids_of c.args.ids.now number)) c.args.entries.now c.loop-i.i c.index-entries-i.result c.index-entries-i-in-loop-i.result c.loop-i.rows c.add_entry.new.rows c.loop-i-test.true c.index-entries-i.is constrained_in (c.loop-i.invariant number all)
    (c.in_ok-add_entry.ensures number (read_good (λ (e : Entry). Itself grammar e.0 e.1) c.args.entries.now c.loop-i.i c.index-entries-i.result c.index-entries-i-in-loop-i.result c.loop-i-test.true c.index-entries-i.is all))

pub returns : goal.returns
returns c = λ number all.
    lists_end (IsConstrainedRow (oids_of c.args.ids.now number)) constrained_in seen c.args.entries.now c.loop-i.i c.loop-i.rows (omega arith) (c.loop-i.invariant number all)
