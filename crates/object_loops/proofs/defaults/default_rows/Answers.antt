use Rattle.cat_names.specs.Naming.{Entry}
use Rattle.cat_sound.specs.Itself.{Itself}
use Rattle.sound_texts.specs.Grammar.{grammar}
use Rattle.object_export.specs.Relations.{IsDefaultRow}
use Rattle.object_loops.specs.Oids.{with_numbers}
use Rattle.object_export.specs.Parts.{default_in}
use Rattle.cluster_loops.proofs.EntryLoops.{one_more, read_good}
use Rattle.object_loops.proofs.defaults.default_rows.Goals as goal

pub loop-i-preserved : goal.loop-i-preserved
loop-i-preserved c = λ all.
    one_more (IsDefaultRow (with_numbers c.args.ids.now c.args.numbers.now)) c.args.entries.now c.loop-i.i c.index-entries-i.result c.index-entries-i-in-loop-i.result c.loop-i.rows c.push_some.new.rows c.loop-i-test.true c.index-entries-i.is default_in c.in_ok-entry_row.field-0 (c.loop-i.invariant all)
    (c.in_ok-entry_row.ensures (read_good (λ (e : Entry). Itself grammar e.0 e.1) c.args.entries.now c.loop-i.i c.index-entries-i.result c.index-entries-i-in-loop-i.result c.loop-i-test.true c.index-entries-i.is all))
    c.in_ok-push_some.ensures
