use Rattle.cat_names.specs.Naming.{Entry}
use Rattle.cat_sound.specs.Itself.{Itself}
use Rattle.object_export.specs.Relations.{IsColumnRow}
use Rattle.sound_texts.specs.Grammar.{grammar}
use Rattle.object_loops.specs.Oids.{with_numbers}
use Rattle.object_export.specs.Parts.{columns_in}
use Rattle.cluster_loops.proofs.EntryLoops.{read_good}
use Rattle.object_loops.proofs.Passes.{several_more}
use Rattle.object_loops.proofs.columns.column_rows.Goals as goal

pub loop-i-preserved : goal.loop-i-preserved
loop-i-preserved c = λ all.
    several_more (IsColumnRow (with_numbers c.args.ids.now c.args.numbers.now)) c.args.entries.now c.loop-i.i c.index-entries-i.result c.index-entries-i-in-loop-i.result c.loop-i.rows c.add_entry.new.rows c.loop-i-test.true c.index-entries-i.is columns_in (c.loop-i.invariant all)
    (c.in_ok-add_entry.ensures (read_good (λ (e : Entry). Itself grammar e.0 e.1) c.args.entries.now c.loop-i.i c.index-entries-i.result c.index-entries-i-in-loop-i.result c.loop-i-test.true c.index-entries-i.is all))
