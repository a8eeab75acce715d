use Rattle.dump_restorable.proofs.Dumped.{restorable}
use Rattle.dump_restorable.proofs.laws.dumps_of_folders_are_restorable.Goals as goal

pub returns : goal.returns
returns c = restorable
