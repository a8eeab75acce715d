use Rattle.data_rows.proofs.LawLemmas.{Copied, text_fails_first}
use Rattle.data_rows.proofs.laws.the_first_fault_is_told.Goals as goal

pub returns : goal.returns
returns c =
    let told : Copied = record { row = c.reading_is_exact.ensures.row; fault = c.reading_is_exact.ensures.fault } in
    text_fails_first told
