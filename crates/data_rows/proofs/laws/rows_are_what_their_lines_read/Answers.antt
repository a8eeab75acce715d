use Rattle.data_rows.proofs.LawLemmas.{Copied, text_has_rows, lines_of_rows, same_lines, alike_lines}
use Rattle.data_rows.proofs.laws.rows_are_what_their_lines_read.Goals as goal

pub returns : goal.returns
returns c =
    let told : Copied = record { row = c.reading_is_exact.ensures.row; fault = c.reading_is_exact.ensures.fault } in
    record { exact = text_has_rows told; lines = lines_of_rows; same = same_lines; alike = alike_lines }
