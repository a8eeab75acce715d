-- Behind the keys from before the set has those so far.
use Rattle.std.proofs.Common.{ℕ, List, ◌++◌, take, filter_map}
use Rattle.cat_model.specs.Values.{Bytes}
use Rattle.constraint_table.specs.KeySets.{AreKeysOn}
use Rattle.constraint_table.specs.Keys.{key_of_index}
use Rattle.constraint_table.proofs.keys.add_indexes.Given as goal

abbrev pub invariant-loop-row : goal.invariant-loop-row
invariant-loop-row l = (ks : List (ℕ × List Bytes)) → AreKeysOn l.fn.keys ks → AreKeysOn l.keys (ks ++ filter_map key_of_index (take l.row-index l.rows))
