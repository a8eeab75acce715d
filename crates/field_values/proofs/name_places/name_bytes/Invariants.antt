-- The names so far.
use Rattle.std.proofs.Common.{◌≡◌, map, take}
use Rattle.field_values.proofs.name_places.name_bytes.Given as goal

abbrev pub invariant-loop-name : goal.invariant-loop-name
invariant-loop-name l = map (λ name. name.now) l.bytes.items ≡ take l.name-index l.names
