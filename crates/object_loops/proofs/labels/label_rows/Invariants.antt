-- The rows so far are those of the entries so far.
use Rattle.std.proofs.Common.{◌≡◌, ℤ, map, take}
use Rattle.std.specs.List.{flat_map}
use Rattle.std.specs.Map.Iter.{deref_pair}
use Rattle.cat_model.specs.declared.key.Key.{Key}
use Rattle.cat_model.specs.declared.value.Value.{Value}
use Rattle.cat_model.specs.declared.object.QName.{QName}
use Rattle.cat_model.specs.Values.{Bytes}
use Rattle.cluster_loops.specs.Ids.{oids_of}
use Rattle.map_export.specs.Making.{AreSaid}
use Rattle.object_export.specs.Types.{label_row}
use Rattle.object_export.specs.Parts.{labels_in}
use Rattle.object_loops.proofs.labels.label_rows.Given as goal

abbrev pub invariant-loop-i : goal.invariant-loop-i
invariant-loop-i l =
    (number : QName → Bytes → ℤ)
    → AreSaid (λ t row. row ≡ label_row (oids_of l.ids number) t) (flat_map labels_in (map (deref_pair {K = Key} {X = Value}) (take l.i l.entries))) l.rows
