-- The set has the keys so far.
use Rattle.std.proofs.Common.{map, take}
use Rattle.row_keys.specs.ByPlaces.{key_at}
use Rattle.row_keys.specs.Known.{AreAmong}
use Rattle.row_keys.proofs.orphans.parent_keys.Given as goal

abbrev pub invariant-loop-i : goal.invariant-loop-i
invariant-loop-i l = AreAmong (take l.i (map (key_at l.columns l.places) l.rows)) l.parents
