-- Where the entries that are left keep rows apart by the one column, all do.
use Rattle.std.proofs.Common.{◌≡◌, [], true, map, drop}
use Rattle.std.specs.List.{AllByRecursion, filter_map}
use Rattle.std.specs.Map.Iter.{deref_pair}
use Rattle.std.specs.Option.{IfSome}
use Rattle.cat_model.specs.declared.key.Key.{Key}
use Rattle.cat_model.specs.declared.value.Value.{Value}
use Rattle.cat_model.specs.Values.{Bytes}
use Rattle.cat_model.specs.CopyEffect.{unique_in}
use Rattle.plain_rows.specs.Lines.{line_keys, none_again}
use Rattle.plain_loads.specs.Meeting.{Differ}
use Rattle.plain_loads.proofs.trying.all_are_on.Given as goal

abbrev pub invariant-loop-i : goal.invariant-loop-i
invariant-loop-i l =
    (text : Bytes) → IfSome l.own (λ place. none_again [] (line_keys l.columns place text) ≡ true)
    → AllByRecursion (Differ l.columns text) (filter_map unique_in (map (deref_pair {K = Key} {X = Value}) (drop l.i l.entries)))
    → AllByRecursion (Differ l.columns text) (filter_map unique_in (map (deref_pair {K = Key} {X = Value}) l.entries))
