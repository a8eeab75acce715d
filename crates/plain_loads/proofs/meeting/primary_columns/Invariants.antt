-- The first primary key is among those that are left.
use Rattle.std.proofs.Common.{◌≡◌, map, drop}
use Rattle.std.specs.Map.Iter.{deref_pair}
use Rattle.cat_model.specs.declared.key.Key.{Key}
use Rattle.cat_model.specs.declared.value.Value.{Value}
use Rattle.cat_model.specs.CopyEffect.{primary_columns}
use Rattle.plain_loads.proofs.meeting.primary_columns.Given as goal

abbrev pub invariant-loop-i : goal.invariant-loop-i
invariant-loop-i l = primary_columns (map (deref_pair {K = Key} {X = Value}) l.constraints) ≡ primary_columns (map (deref_pair {K = Key} {X = Value}) (drop l.i l.constraints))
