-- The set is that of the names so far.
use Rattle.std.proofs.Common.{take}
use Rattle.constraint_table.specs.KeySets.{AreNames}
use Rattle.constraint_table.proofs.key_set.name_set.Given as goal

abbrev pub invariant-loop-name : goal.invariant-loop-name
invariant-loop-name l = AreNames l.set (take l.name-index l.names)
