use Rattle.copy_text.proofs.LawLemmas.{row_found, row_only, fault_found, fault_only}
use Rattle.copy_text.proofs.laws.reading_is_exact.Goals as goal

pub returns : goal.returns
returns c = record {
  row = λ row line one_line. (row_found row line one_line, row_only row line);
  fault = λ line f. (fault_found line f, fault_only line f);
}
