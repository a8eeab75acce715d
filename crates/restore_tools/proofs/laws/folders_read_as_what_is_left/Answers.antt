use Rattle.restore_tools.proofs.ReadBack.{reads_back, undone}
use Rattle.restore_tools.proofs.laws.folders_read_as_what_is_left.Goals as goal

pub returns : goal.returns
returns c = record { written = reads_back; undone = undone }
