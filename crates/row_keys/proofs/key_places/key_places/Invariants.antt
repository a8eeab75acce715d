-- The places of the names so far.
use Rattle.std.proofs.Common.{◌≡◌, map, take}
use Rattle.row_keys.specs.ByPlaces.{place_in}
use Rattle.row_keys.proofs.key_places.key_places.Given as goal

abbrev pub invariant-loop-name : goal.invariant-loop-name
invariant-loop-name l = l.places.items ≡ map (place_in l.columns) (take l.name-index l.names)
