-- Those so far, with those of the entries that are left, are all.
use Rattle.std.proofs.Common.{◌≡◌, ◌++◌, map, drop}
use Rattle.std.specs.List.{flat_map}
use Rattle.std.specs.Map.Iter.{deref_pair}
use Rattle.cat_model.specs.declared.key.Key.{Key}
use Rattle.cat_model.specs.declared.value.Value.{Value}
use Rattle.entry_ids.specs.Entries.{label_slots}
use Rattle.entry_ids.proofs.slots.push_all_labels.Given as goal

abbrev pub invariant-loop-i : goal.invariant-loop-i
invariant-loop-i l =
    l.slots.items ++ flat_map label_slots (map (deref_pair {K = Key} {X = Value}) (drop l.i l.entries))
    ≡ l.fn.slots.items ++ flat_map label_slots (map (deref_pair {K = Key} {X = Value}) l.entries)
