use Rattle.copy_text.proofs.LawLemmas.{one_row}
use Rattle.copy_text.proofs.laws.one_row_a_line.Goals as goal

pub returns : goal.returns
returns c = one_row
