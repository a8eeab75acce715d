use Rattle.restore_input.proofs.Alike.{same_faults}
use Rattle.restore_input.proofs.laws.restores_read_what_scripts_read.Goals as goal

pub returns : goal.returns
returns c = same_faults
