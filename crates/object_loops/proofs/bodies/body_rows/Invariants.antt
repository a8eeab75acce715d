-- Where the entries are in order, the rows so far are those of the entries so far.
use Rattle.std.proofs.Common.{map, take, filter_map}
use Rattle.std.specs.List.{AllByRecursion}
use Rattle.std.specs.Map.Iter.{deref_pair}
use Rattle.cat_model.specs.declared.key.Key.{Key}
use Rattle.cat_model.specs.declared.value.Value.{Value}
use Rattle.cat_sound.specs.Itself.{Itself}
use Rattle.object_export.specs.Relations.{IsBodyRow}
use Rattle.cluster_loops.specs.Ids.{of_keys}
use Rattle.object_export.specs.Parts.{body_in}
use Rattle.sound_texts.specs.Grammar.{grammar}
use Rattle.map_export.specs.Making.{AreSaid}
use Rattle.object_loops.proofs.bodies.body_rows.Given as goal

abbrev pub invariant-loop-i : goal.invariant-loop-i
invariant-loop-i l =
    AllByRecursion (λ e. Itself grammar e.0 e.1) (map (deref_pair {K = Key} {X = Value}) l.entries)
    → AreSaid (IsBodyRow (of_keys l.ids)) (filter_map body_in (map (deref_pair {K = Key} {X = Value}) (take l.i l.entries))) l.rows
