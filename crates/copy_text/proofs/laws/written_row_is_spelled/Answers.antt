use Rattle.copy_text.proofs.SpellLemmas.{written_row}
use Rattle.copy_text.proofs.laws.written_row_is_spelled.Goals as goal

pub returns : goal.returns
returns c = written_row
