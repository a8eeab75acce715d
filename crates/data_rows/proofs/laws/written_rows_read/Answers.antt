use Rattle.data_rows.proofs.LawLemmas.{Copied, written_rows}
use Rattle.data_rows.proofs.laws.written_rows_read.Goals as goal

pub returns : goal.returns
returns c =
    let told : Copied = record { row = c.reading_is_exact.ensures.row; fault = c.reading_is_exact.ensures.fault } in
    written_rows told c.written_rows_are_read.ensures
