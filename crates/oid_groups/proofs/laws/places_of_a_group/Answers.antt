use Rattle.oid_groups.proofs.Places.{places_are_of_oid, places_are_distinct}
use Rattle.oid_groups.proofs.laws.places_of_a_group.Goals as goal

pub returns : goal.returns
returns c = record { of_oid = places_are_of_oid; distinct = places_are_distinct }
