use Rattle.std.proofs.lemmas.List.Elements.{All-from_recursion, recursion_from_All}
use Rattle.table_rows.specs.Tables.{table_oids, column_count}
use Rattle.table_rows.specs.Values.{text_of, values_fault}
use Rattle.table_rows.proofs.FirstFaults.{HasRows, all_have_rows, no_fault, lines_read}
use Rattle.table_rows.proofs.laws.texts_without_fault_have_rows.Goals as goal

pub returns-clause-rows : goal.returns-clause-rows
unfolding values_fault
returns-clause-rows c = λ cat rows. (
  λ none. All-from_recursion (HasRows (column_count cat) (text_of rows)) (table_oids cat) (all_have_rows (column_count cat) (text_of rows) (table_oids cat) none),
  λ all. no_fault (column_count cat) (text_of rows) (table_oids cat) (recursion_from_All (HasRows (column_count cat) (text_of rows)) (table_oids cat) all),
)

pub returns-clause-lines : goal.returns-clause-lines
unfolding values_fault
returns-clause-lines c = λ cat rows none k d within.
    lines_read c.rows_are_what_their_lines_read.ensures.lines _ _ (All-from_recursion (HasRows (column_count cat) (text_of rows)) (table_oids cat) (all_have_rows (column_count cat) (text_of rows) (table_oids cat) none) k d within)
