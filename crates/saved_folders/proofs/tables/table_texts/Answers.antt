use Rattle.std.proofs.Common.{◌∙◌, ◌++◌, List, [], ◌∷◌, get_or}
use Rattle.std.specs.List.{AllByRecursion}
use Rattle.std.proofs.lemmas.List.{get_or_default, take_all}
use Rattle.cat_rows.specs.declared.table.SysTable.TheVariants.{PgAuthid}
use Rattle.folder_io.specs.Folders.{all_tables}
use Rattle.folder_io.proofs.TableOrder.{next_table}
use Rattle.saved_folders.specs.Folders.{IsTextOf}
use Rattle.saved_folders.proofs.tables.table_texts.Goals as goal

-- one more of which it holds
each_more : {X : Type 0} (P : X → Type 0) (xs : List X) (x : X) → AllByRecursion P xs → P x → AllByRecursion P (xs ++ x ∷ [])
each_more P [] x all one = (one, tt)
each_more P (y ∷ ys) x all one = (all.0, each_more P ys x all.1 one)

pub loop-table-preserved : goal.loop-table-preserved
loop-table-preserved c = record {
  tables =
      rw c.in_ok-push.ensures.items (next_table c.loop-table.table-index c.loop-table.texts.items c.in_ok-text.text (get_or all_tables c.loop-table.table-index PgAuthid) c.loop-table-test.true (get_or_default all_tables c.loop-table.table-index _ PgAuthid c.loop-table-test.true) c.in_ok-text.ensures.table c.loop-table.invariant.tables);
  written = rw c.in_ok-push.ensures.items (each_more (IsTextOf c.args.cat.now) c.loop-table.texts.items c.in_ok-text.text c.loop-table.invariant.written c.in_ok-text.ensures.written);
}

pub returns-clause-tables : goal.returns-clause-tables
returns-clause-tables c = c.loop-table.invariant.tables ∙ take_all c.loop-table.table-index all_tables c.loop-table-test.false
