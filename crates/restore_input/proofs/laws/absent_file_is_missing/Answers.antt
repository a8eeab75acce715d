use Rattle.restore_input.proofs.Alike.{absent}
use Rattle.restore_input.proofs.laws.absent_file_is_missing.Goals as goal

pub returns : goal.returns
returns c = absent
