use Rattle.archive_laws.proofs.Restoring.{file_restored}
use Rattle.archive_laws.proofs.laws.dumps_to_files_are_restored.Goals as goal

pub returns : goal.returns
returns c = file_restored
