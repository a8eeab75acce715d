-- The set has the keys so far.
use Rattle.std.proofs.Common.{take, filter_map}
use Rattle.constraint_table.specs.KeySets.{AreKeysOn}
use Rattle.constraint_table.specs.Keys.{key_of_constraint}
use Rattle.constraint_table.proofs.keys.constraint_keys.Given as goal

abbrev pub invariant-loop-row : goal.invariant-loop-row
invariant-loop-row l = AreKeysOn l.keys (filter_map key_of_constraint (take l.row-index l.rows))
