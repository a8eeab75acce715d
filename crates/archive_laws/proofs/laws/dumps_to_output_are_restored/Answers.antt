use Rattle.archive_laws.proofs.Restoring.{output_restored}
use Rattle.archive_laws.proofs.laws.dumps_to_output_are_restored.Goals as goal

pub returns : goal.returns
returns c = output_restored
