-- The map has the places of the names so far.
use Rattle.std.proofs.Common.{map, take}
use Rattle.field_values.specs.Places.{ArePlaces}
use Rattle.field_values.proofs.name_places.first_places.Given as goal

abbrev pub invariant-loop-i : goal.invariant-loop-i
invariant-loop-i l = ArePlaces (map (λ name. name.now) (take l.i l.names)) l.first
