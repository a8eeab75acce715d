use Rattle.archive_laws.proofs.Scripts.{scripted}
use Rattle.archive_laws.proofs.Wanted.{places_alike}
use Rattle.archive_laws.proofs.laws.archives_are_scripted.Goals as goal

pub returns-clause-script : goal.returns-clause-script
returns-clause-script c = scripted

pub returns-clause-chosen_alike : goal.returns-clause-chosen_alike
returns-clause-chosen_alike c = places_alike
