use Rattle.cat_rows.proofs.HoldLemmas.{Copied, reading_a_row, reading_a_fault}
use Rattle.cat_rows.proofs.laws.reading_a_line_is_exact.Goals as goal

pub returns : goal.returns
returns c =
    let told : Copied = record { row = c.reading_is_exact.ensures.row; fault = c.reading_is_exact.ensures.fault } in
    record { row = reading_a_row told; fault = reading_a_fault told }
