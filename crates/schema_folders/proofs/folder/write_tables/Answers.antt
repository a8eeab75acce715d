use Rattle.std.proofs.Common.{rules, get_or}
use Rattle.std.proofs.lemmas.List.{get_or_default}
use Rattle.cat_rows.specs.declared.table.SysTable.TheVariants.{PgAuthid}
use Rattle.schema_folders.specs.Folder.{all_tables}
use Rattle.tool_words.proofs.Lining.{always_err}
use Rattle.schema_folders.proofs.Saved.{one_saved, ended_before, ended_on, tables_saved}
use Rattle.schema_folders.proofs.folder.write_tables.Goals as goal

pub loop-table-preserved : goal.loop-table-preserved
loop-table-preserved g c = record {
  so_far =
      one_saved c.args.folder.now c.args.namespaces.now c.loop-table.table-index (get_or all_tables c.loop-table.table-index PgAuthid) _ _ _ _ _ _ c.loop-table-test.true (get_or_default all_tables c.loop-table.table-index _ PgAuthid c.loop-table-test.true) c.file_name.ensures c.in_ok-name.ensures c.table_text.ensures c.loop-table.invariant.so_far c.in_ok-write_file.ensures.ok;
  read_count = search rules;
  write_count = search rules;
}

pub returns-in_err-name-clause-err : goal.returns-in_err-name-clause-err
returns-in_err-name-clause-err g c = always_err c.from_residual.result (ended_before c.args.folder.now c.args.namespaces.now c.loop-table.table-index _ _ c.loop-table.invariant.so_far)

pub returns-in_err-write_file-clause-err : goal.returns-in_err-write_file-clause-err
returns-in_err-write_file-clause-err g c =
    always_err c.from_residual-in_err-write_file.result
    (ended_on c.args.folder.now c.args.namespaces.now c.loop-table.table-index (get_or all_tables c.loop-table.table-index PgAuthid) _ _ _ _ _ _ c.loop-table-test.true (get_or_default all_tables c.loop-table.table-index _ PgAuthid c.loop-table-test.true) c.file_name.ensures c.in_ok-name.ensures c.table_text.ensures c.loop-table.invariant.so_far c.in_err-write_file.ensures.err)

pub returns-clause-ok : goal.returns-clause-ok
returns-clause-ok g c = tables_saved c.args.folder.now c.args.namespaces.now c.loop-table.table-index _ _ c.loop-table-test.false c.loop-table.invariant.so_far
