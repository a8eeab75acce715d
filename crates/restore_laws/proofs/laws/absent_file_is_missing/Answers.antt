use Rattle.restore_laws.proofs.Chosen.{missing}
use Rattle.restore_laws.proofs.laws.absent_file_is_missing.Goals as goal

pub returns : goal.returns
returns c = missing
