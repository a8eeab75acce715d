use Rattle.directory_laws.proofs.Restoring.{whole, script}
use Rattle.directory_laws.proofs.laws.folders_are_scripted.Goals as goal

pub returns-clause-whole : goal.returns-clause-whole
returns-clause-whole c = whole

pub returns-clause-script : goal.returns-clause-script
returns-clause-script c = script
