use Rattle.fmt_custom.proofs.WorkedLaws.{worked_fits}
use Rattle.fmt_custom.proofs.laws.worked_example.Goals as goal

pub returns : goal.returns
returns c = worked_fits
