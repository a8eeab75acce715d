-- Where no two rows have one key for the entries that are left, none have for all.
use Rattle.std.proofs.Common.{map, drop}
use Rattle.std.specs.List.{AllByRecursion, filter_map}
use Rattle.std.specs.Map.Iter.{deref_pair}
use Rattle.cat_model.specs.declared.key.Key.{Key}
use Rattle.cat_model.specs.declared.value.Value.{Value}
use Rattle.cat_model.specs.CopyEffect.{unique_in}
use Rattle.plain_loads.specs.Meeting.{Differ}
use Rattle.plain_loads.proofs.uniques.all_differ.Given as goal

abbrev pub invariant-loop-i : goal.invariant-loop-i
invariant-loop-i l =
    AllByRecursion (Differ l.columns l.text) (filter_map unique_in (map (deref_pair {K = Key} {X = Value}) (drop l.i l.entries)))
    → AllByRecursion (Differ l.columns l.text) (filter_map unique_in (map (deref_pair {K = Key} {X = Value}) l.entries))
