use Rattle.rows_fit.proofs.Trying.{same_rows}
use Rattle.rows_fit.proofs.laws.read_rows_are_copied.Goals as goal

pub returns : goal.returns
returns c = same_rows
