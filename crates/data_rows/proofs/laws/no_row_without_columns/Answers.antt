use Rattle.data_rows.proofs.LawLemmas.{Copied, no_row_of_no_columns}
use Rattle.data_rows.proofs.laws.no_row_without_columns.Goals as goal

pub returns : goal.returns
returns c =
    let told : Copied = record { row = c.reading_is_exact.ensures.row; fault = c.reading_is_exact.ensures.fault } in
    no_row_of_no_columns told c.spelled_row_can_be_written.ensures
