use Rattle.archive_laws.proofs.Restoring.{path_restored}
use Rattle.archive_laws.proofs.laws.dumps_at_paths_are_restored.Goals as goal

pub returns : goal.returns
returns c = path_restored
