use Rattle.sound_loads.proofs.Whole.{boot_there}
use Rattle.sound_loads.proofs.laws.the_boot_role_is_there.Goals as goal

pub returns : goal.returns
returns c = boot_there
