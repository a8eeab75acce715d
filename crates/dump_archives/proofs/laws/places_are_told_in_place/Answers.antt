use Rattle.dump_archives.proofs.PlaceLemmas.{custom_as_long, written_in_place}
use Rattle.dump_archives.proofs.laws.places_are_told_in_place.Goals as goal

pub returns-clause-as_long : goal.returns-clause-as_long
returns-clause-as_long c = custom_as_long

pub returns-clause-written : goal.returns-clause-written
returns-clause-written c = written_in_place
