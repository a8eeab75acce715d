use Rattle.directory_laws.proofs.Restoring.{all_stored, unasked, asked}
use Rattle.directory_laws.proofs.laws.dumps_to_folders_are_restored.Goals as goal

pub returns-clause-stored : goal.returns-clause-stored
returns-clause-stored c = λ tree before now written folder head entries needed o is ends. all_stored tree folder head entries needed o is before now written ends

pub returns-clause-unasked : goal.returns-clause-unasked
returns-clause-unasked c = unasked

pub returns-clause-asked : goal.returns-clause-asked
returns-clause-asked c = asked
