-- The texts so far, with those of the entries that are left, are those of all; and the rows so far are read as they are written.
use Rattle.std.proofs.Common.{◌≡◌, map, drop, take}
use Rattle.std.specs.FinMap.{empty}
use Rattle.std.specs.List.{AllByRecursion}
use Rattle.std.specs.Map.Iter.{deref_pair}
use Rattle.cat_model.specs.declared.key.Key.{Key}
use Rattle.cat_model.specs.declared.value.Value.{Value}
use Rattle.whole_export.specs.Data.{with_all_rows, IsHeld}
use Rattle.whole_export.proofs.row_data.row_texts.Given as goal

abbrev pub invariant-loop-i : goal.invariant-loop-i
invariant-loop-i l = record {
  texts : with_all_rows l.ids (map (deref_pair {K = Key} {X = Value}) (drop l.i l.entries)) l.texts ≡ with_all_rows l.ids (map (deref_pair {K = Key} {X = Value}) l.entries) empty;
  held : AllByRecursion IsHeld (map (deref_pair {K = Key} {X = Value}) (take l.i l.entries));
}
