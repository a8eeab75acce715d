-- What keeps rows apart so far, and behind it what does among the entries that are left.
use Rattle.std.proofs.Common.{◌≡◌, ◌++◌, map, drop}
use Rattle.std.specs.List.{filter_map}
use Rattle.std.specs.Map.Iter.{deref_pair}
use Rattle.cat_model.specs.declared.key.Key.{Key}
use Rattle.cat_model.specs.declared.value.Value.{Value}
use Rattle.cat_model.specs.CopyEffect.{unique_in}
use Rattle.copy_effects.proofs.uniques.push_uniques.Given as goal

abbrev pub invariant-loop-i : goal.invariant-loop-i
invariant-loop-i l =
    l.fn.uniques.items ++ filter_map unique_in (map (deref_pair {K = Key} {X = Value}) l.entries)
    ≡ l.uniques.items ++ filter_map unique_in (map (deref_pair {K = Key} {X = Value}) (drop l.i l.entries))
