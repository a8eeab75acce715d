-- Where the links hold that were put down, and the entries that are left have their parents, all have.
use Rattle.std.proofs.Common.{map, drop}
use Rattle.std.specs.List.{AllByRecursion, filter_map}
use Rattle.std.specs.Map.Iter.{deref_pair}
use Rattle.cat_model.specs.declared.key.Key.{Key}
use Rattle.cat_model.specs.declared.value.Value.{Value}
use Rattle.cat_model.specs.Values.{Bytes}
use Rattle.cat_model.specs.CopyEffect.{foreign_in}
use Rattle.cat_names.specs.DataSets.{TextsByOid}
use Rattle.plain_loads.specs.Meeting.{HasParents}
use Rattle.plain_loads.specs.Trying.{IsKnown, LinkHolds}
use Rattle.plain_loads.proofs.trying.add_links.Given as goal

abbrev pub invariant-loop-i : goal.invariant-loop-i
invariant-loop-i l =
    (texts : TextsByOid) → AllByRecursion (IsKnown l.trying.named.now texts) l.trying.known.now → (text : Bytes) → AllByRecursion (LinkHolds l.columns text) l.links.items
    → AllByRecursion (HasParents l.trying.named.now l.trying.book.now texts l.q l.columns text) (filter_map foreign_in (map (deref_pair {K = Key} {X = Value}) (drop l.i l.entries)))
    → AllByRecursion (HasParents l.trying.named.now l.trying.book.now texts l.q l.columns text) (filter_map foreign_in (map (deref_pair {K = Key} {X = Value}) l.entries))
