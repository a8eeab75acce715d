-- The foreign keys so far, and behind them those among the constraints that are left.
use Rattle.std.proofs.Common.{◌≡◌, ◌++◌, map, drop}
use Rattle.std.specs.List.{filter_map}
use Rattle.std.specs.Map.Iter.{deref_pair}
use Rattle.cat_model.specs.declared.key.Key.{Key}
use Rattle.cat_model.specs.declared.value.Value.{Value}
use Rattle.cat_model.specs.CopyEffect.{foreign_in}
use Rattle.copy_effects.proofs.foreigns.foreigns_of.Given as goal

abbrev pub invariant-loop-i : goal.invariant-loop-i
invariant-loop-i l =
    filter_map foreign_in (map (deref_pair {K = Key} {X = Value}) l.constraints)
    ≡ l.foreigns.items ++ filter_map foreign_in (map (deref_pair {K = Key} {X = Value}) (drop l.i l.constraints))
