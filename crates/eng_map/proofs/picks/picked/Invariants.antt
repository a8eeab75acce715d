-- What was found, with what is picked among the keys that are left, is what is picked among all.
use Rattle.std.proofs.Common.{◌≡◌, ◌++◌, map}
use Rattle.std.specs.FinMap.{from_entries}
use Rattle.std.specs.Map.Iter.{deref_pair}
use Rattle.cat_model.specs.declared.key.Key.{Key}
use Rattle.cat_model.specs.declared.value.Value.{Value}
use Rattle.eng_map.specs.Picks.{picked}
use Rattle.eng_map.proofs.picks.picked.Given as goal

abbrev pub invariant-loop-key : goal.invariant-loop-key
invariant-loop-key l =
    map (deref_pair {K = Key} {X = Value}) l.found.items ++ picked (from_entries l.values.entries) l.class l.key-iterator
    ≡ picked (from_entries l.values.entries) l.class l.keys.keys
