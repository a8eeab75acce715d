use Rattle.ddl_scripts.proofs.RowTexts.{rows_read_back}
use Rattle.ddl_scripts.proofs.laws.written_rows_are_read_back.Goals as goal

pub returns : goal.returns
returns c = rows_read_back
