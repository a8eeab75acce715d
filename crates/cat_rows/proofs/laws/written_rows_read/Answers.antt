use Rattle.cat_rows.proofs.WritingLemmas.{Told, written_table}
use Rattle.cat_rows.proofs.laws.written_rows_read.Goals as goal

pub returns : goal.returns
returns c =
    let told : Told = record {
      names = c.tests_are_exact.ensures.name;
      spelled = c.written_row_is_spelled.ensures;
      exact = c.reading_is_exact.ensures.row;
      lists = c.written_list_reads.ensures;
      texts = c.written_list_is_a_text.ensures;
    } in
    λ table rows all. written_table told table rows all
