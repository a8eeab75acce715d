-- The rows added so far are those of the labels so far.
use Rattle.std.proofs.Common.{◌≡◌, ℤ, take}
use Rattle.cat_model.specs.declared.object.QName.{QName}
use Rattle.cat_model.specs.Values.{Bytes}
use Rattle.cluster_loops.specs.Ids.{oids_of}
use Rattle.object_export.specs.Types.{label_row}
use Rattle.object_loops.specs.Adding.{Adds}
use Rattle.object_export.specs.Parts.{labels_from}
use Rattle.object_loops.proofs.labels.add_labels.Given as goal

abbrev pub invariant-loop-place : goal.invariant-loop-place
invariant-loop-place l =
    (number : QName → Bytes → ℤ) → Adds (λ t row. row ≡ label_row (oids_of l.ids number) t) (labels_from l.path l.labels 0 (take l.place l.labels)) l.initial.rows l.rows
