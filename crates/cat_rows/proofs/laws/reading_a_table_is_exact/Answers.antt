use Rattle.cat_rows.proofs.HoldLemmas.{Copied, reading_rows, reading_a_first_fault}
use Rattle.cat_rows.proofs.laws.reading_a_table_is_exact.Goals as goal

pub returns : goal.returns
returns c =
    let told : Copied = record { row = c.reading_is_exact.ensures.row; fault = c.reading_is_exact.ensures.fault } in
    record { rows = reading_rows told; fault = reading_a_first_fault told }
