use Rattle.std.proofs.Common.{◌∙◌, rules, arith}
use Rattle.cat_rows.specs.declared.table.SysTable.TheVariants.{PgAuthid}
use Rattle.folder_io.specs.Folders.{all_tables}
use Rattle.folder_io.specs.declared.file.ExportFile.TheVariants.{Table}
use Rattle.same_texts.specs.Alike.{HasSame}
use Rattle.same_texts.proofs.Steps.{below_more}
use Rattle.same_texts.proofs.comparing.have_same_tables.Goals as goal

pub loop-table-preserved : goal.loop-table-preserved
loop-table-preserved g c = record {
  kept = search rules;
  read_count = search rules;
  write_count = search rules;
  so_far = λ tree known.
      below_more (λ table. HasSame c.args.first.now c.args.second.now tree (Table table)) all_tables c.loop-table.table-index PgAuthid c.loop-table-test.true (c.loop-table.invariant.so_far tree known) (c.in_ok-has_same.ensures.same c.if-not-branch.false tree (c.loop-table.invariant.kept ∙ known));
}

pub returns-clause-same : goal.returns-clause-same
returns-clause-same g c = λ yes tree known k d lt. c.loop-table.invariant.so_far tree known k d (omega arith)
