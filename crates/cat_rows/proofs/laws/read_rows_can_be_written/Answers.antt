use Rattle.cat_rows.proofs.HoldLemmas.{Copied}
use Rattle.cat_rows.proofs.ReadRows.{rows_can_be_written}
use Rattle.cat_rows.proofs.laws.read_rows_can_be_written.Goals as goal

pub returns : goal.returns
returns c =
    let told : Copied = record { row = c.reading_is_exact.ensures.row; fault = c.reading_is_exact.ensures.fault } in
    rows_can_be_written told c.tests_are_exact.ensures.name c.read_list_can_be_written.ensures c.spelled_row_can_be_written.ensures
