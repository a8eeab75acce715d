use Rattle.copy_text.proofs.LawLemmas.{rows_before}
use Rattle.copy_text.proofs.laws.written_rows_are_read.Goals as goal

pub returns : goal.returns
returns c = rows_before
