-- The numbers so far, with those of the entries that are left, are those of all.
use Rattle.std.proofs.Common.{◌≡◌, map, drop}
use Rattle.std.specs.FinMap.{empty}
use Rattle.std.specs.Map.Iter.{deref_pair}
use Rattle.cat_model.specs.declared.key.Key.{Key}
use Rattle.cat_model.specs.declared.value.Value.{Value}
use Rattle.column_numbers.specs.Rule.{with_entries}
use Rattle.column_numbers.proofs.rule.number_columns.Given as goal

abbrev pub invariant-loop-i : goal.invariant-loop-i
invariant-loop-i l =
    with_entries l.had (map (deref_pair {K = Key} {X = Value}) (drop l.i l.entries)) l.numbers
    ≡ with_entries l.had (map (deref_pair {K = Key} {X = Value}) l.entries) empty
