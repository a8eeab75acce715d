use Rattle.std.proofs.Common.{◌∙◌, get_or, rules}
use Rattle.std.proofs.lemmas.List.{get_or_default, take_all}
use Rattle.std.proofs.lemmas.Result.{err_from_is_err_and}
use Rattle.cat_rows.specs.declared.table.SysTable.TheVariants.{PgAuthid}
use Rattle.folder_io.specs.Folders.{all_tables, text_of, texts_of}
use Rattle.folder_io.proofs.Dues.{due_map}
use Rattle.folder_io.proofs.Lengths.{one_more}
use Rattle.folder_io.proofs.Steps.{gave, refused, ended}
use Rattle.folder_io.proofs.TableOrder.{next_table}
use Rattle.folder_io.proofs.reading.read_texts.Goals as goal

pub returns-in_err-text-clause-due : goal.returns-in_err-text-clause-due
unfolding texts_of
returns-in_err-text-clause-due g c = λ tree told.
    let p = err_from_is_err_and c.from_residual.result c.from_residual.ensures.1 in
    rw (p.1, p.2) (due_map _ (text_of c.args.folder.now tree (get_or all_tables c.loop-table.table-index PgAuthid)) (texts_of c.args.folder.now tree)
    (λ o e. refused (text_of c.args.folder.now tree) all_tables c.loop-table.texts.items c.loop-table.table-index (get_or all_tables c.loop-table.table-index PgAuthid) o c.loop-table-test.true (get_or_default all_tables c.loop-table.table-index _ PgAuthid c.loop-table-test.true) (c.loop-table.invariant.so_far tree told) e)
    (c.in_err-text.ensures.due tree (c.loop-table.invariant.kept ∙ told)))

pub loop-table-preserved : goal.loop-table-preserved
loop-table-preserved g c = record {
  kept = search rules;
  read_count = search rules;
  write_count = search rules;
  so_far = λ tree told.
      rw c.in_ok-push.ensures.items (gave (text_of c.args.folder.now tree) all_tables c.loop-table.texts.items c.loop-table.table-index (get_or all_tables c.loop-table.table-index PgAuthid) c.in_ok-text.text c.loop-table-test.true (get_or_default all_tables c.loop-table.table-index _ PgAuthid c.loop-table-test.true) (c.loop-table.invariant.so_far tree told) (c.in_ok-text.ensures.due tree (c.loop-table.invariant.kept ∙ told)));
  tables =
      rw c.in_ok-push.ensures.items (next_table c.loop-table.table-index c.loop-table.texts.items c.in_ok-text.text (get_or all_tables c.loop-table.table-index PgAuthid) c.loop-table-test.true (get_or_default all_tables c.loop-table.table-index _ PgAuthid c.loop-table-test.true) c.in_ok-text.ensures.table c.loop-table.invariant.tables);
  limited = rw c.in_ok-push.ensures.items (one_more c.loop-table.texts.items c.in_ok-text.text c.loop-table.table-index c.loop-table.invariant.limited c.in_ok-text.ensures.limited);
}

pub returns-clause-due : goal.returns-clause-due
unfolding texts_of
returns-clause-due g c = λ tree told.
    ended (text_of c.args.folder.now tree) all_tables c.loop-table.texts.items c.loop-table.table-index c.loop-table-test.false (c.loop-table.invariant.so_far tree told)

pub returns-clause-tables : goal.returns-clause-tables
returns-clause-tables g c = c.loop-table.invariant.tables ∙ take_all c.loop-table.table-index all_tables c.loop-table-test.false
