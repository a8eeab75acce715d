-- Where the entries are in order, the rows so far are those of the entries so far.
use Rattle.std.proofs.Common.{ℤ, map, take}
use Rattle.std.specs.List.{AllByRecursion, flat_map}
use Rattle.std.specs.Map.Iter.{deref_pair}
use Rattle.cat_model.specs.declared.key.Key.{Key}
use Rattle.cat_model.specs.declared.value.Value.{Value}
use Rattle.cat_model.specs.declared.object.QName.{QName}
use Rattle.cat_model.specs.Values.{Bytes}
use Rattle.cat_sound.specs.Itself.{Itself}
use Rattle.cluster_loops.specs.Ids.{oids_of}
use Rattle.map_export.specs.Making.{AreSaid}
use Rattle.object_export.specs.Constraints.{IsConstrainedRow}
use Rattle.sound_texts.specs.Grammar.{grammar}
use Rattle.object_export.specs.Parts.{constrained_in}
use Rattle.object_loops.proofs.constraints.constraint_rows.Given as goal

abbrev pub invariant-loop-i : goal.invariant-loop-i
invariant-loop-i l =
    (number : QName → Bytes → ℤ) → AllByRecursion (λ e. Itself grammar e.0 e.1) (map (deref_pair {K = Key} {X = Value}) l.entries)
    → AreSaid (IsConstrainedRow (oids_of l.ids number)) (flat_map constrained_in (map (deref_pair {K = Key} {X = Value}) (take l.i l.entries))) l.rows
