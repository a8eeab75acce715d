use Rattle.copy_text.proofs.LawLemmas.{can_be_written}
use Rattle.copy_text.proofs.laws.spelled_row_can_be_written.Goals as goal

pub returns : goal.returns
returns c = can_be_written
