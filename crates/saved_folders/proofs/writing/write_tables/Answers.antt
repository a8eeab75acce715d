use Rattle.std.proofs.Common.{rules, refl, sym}
use Rattle.saved_folders.specs.Folders.{table_written}
use Rattle.tool_words.proofs.Lining.{always_err}
use Rattle.saved_folders.proofs.Saved.{none_saved, more_saved, ended_on, all_saved}
use Rattle.saved_folders.proofs.writing.write_tables.Goals as goal

pub loop-text-init : goal.loop-text-init
loop-text-init g c = record { so_far = none_saved (table_written c.args.folder.now) c.args.tables.now _; read_count = refl; write_count = refl }

pub loop-text-preserved : goal.loop-text-preserved
loop-text-preserved g c = record {
  so_far = more_saved (table_written c.args.folder.now) c.args.tables.now c.loop-text.text-index c.text-item.result _ _ _ c.loop-text-test.true (sym c.text-item.is) c.loop-text.invariant.so_far (rw (c.table.ensures, c.bytes.ensures) at c.in_ok-write_in.ensures.ok);
  read_count = search rules;
  write_count = search rules;
}

pub returns-in_err-write_in-clause-err : goal.returns-in_err-write_in-clause-err
returns-in_err-write_in-clause-err g c =
    always_err c.from_residual.result
    (ended_on (table_written c.args.folder.now) c.args.tables.now c.loop-text.text-index c.text-item.result _ _ _ c.loop-text-test.true (sym c.text-item.is) c.loop-text.invariant.so_far (rw (c.table.ensures, c.bytes.ensures) at c.in_err-write_in.ensures.err))

pub returns-clause-ok : goal.returns-clause-ok
returns-clause-ok g c = all_saved (table_written c.args.folder.now) c.args.tables.now c.loop-text.text-index _ _ c.loop-text-test.false c.loop-text.invariant.so_far
