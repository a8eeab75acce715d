use Rattle.restore_folders.proofs.Ready.{entries_fit}
use Rattle.endings_sound.proofs.laws.entries_that_are_read_are_fit.Goals as goal

pub returns : goal.returns
returns c = entries_fit
