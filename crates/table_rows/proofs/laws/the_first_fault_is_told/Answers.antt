use Rattle.std.proofs.lemmas.List.Elements.{All-from_recursion}
use Rattle.table_rows.specs.Tables.{table_oids, column_count}
use Rattle.table_rows.specs.Values.{text_of, values_fault}
use Rattle.table_rows.proofs.FirstFaults.{HasRows, fails_first}
use Rattle.table_rows.proofs.laws.the_first_fault_is_told.Goals as goal

pub returns : goal.returns
unfolding values_fault
returns c = λ cat rows fault some.
    let found = fails_first (column_count cat) (text_of rows) (table_oids cat) fault some in
    record {
      before = found.before;
      after = found.after;
      split = found.split;
      good = All-from_recursion (HasRows (column_count cat) (text_of rows)) found.before found.good;
      fails = found.fails;
    }
