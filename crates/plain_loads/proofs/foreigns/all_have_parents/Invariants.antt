-- Where each row has a parent for the entries that are left, it has for all.
use Rattle.std.proofs.Common.{map, drop}
use Rattle.std.specs.List.{AllByRecursion, filter_map}
use Rattle.std.specs.Map.Iter.{deref_pair}
use Rattle.cat_model.specs.declared.key.Key.{Key}
use Rattle.cat_model.specs.declared.value.Value.{Value}
use Rattle.cat_model.specs.CopyEffect.{foreign_in}
use Rattle.plain_loads.specs.Meeting.{HasParents}
use Rattle.plain_loads.proofs.foreigns.all_have_parents.Given as goal

abbrev pub invariant-loop-i : goal.invariant-loop-i
invariant-loop-i l =
    AllByRecursion (HasParents l.tables.named.now l.tables.book.now l.tables.rows.now l.q l.columns l.text) (filter_map foreign_in (map (deref_pair {K = Key} {X = Value}) (drop l.i l.entries)))
    → AllByRecursion (HasParents l.tables.named.now l.tables.book.now l.tables.rows.now l.q l.columns l.text) (filter_map foreign_in (map (deref_pair {K = Key} {X = Value}) l.entries))
