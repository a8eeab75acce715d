use Rattle.std.proofs.Common.{◌≡◌, List, subst}
use Rattle.cat_model.specs.Values.{Bytes}
use Rattle.cluster_loops.specs.Ids.{oids_of}
use Rattle.object_export.specs.Types.{NamedLabel, label_row}
use Rattle.object_export.specs.Parts.{labels_from}
use Rattle.object_loops.specs.Adding.{Adds}
use Rattle.object_loops.proofs.labels.add_enum.Goals as goal

pub returns : goal.returns
returns c = λ number.
    subst (λ (ls : List Bytes). Adds (λ (t : NamedLabel) row. row ≡ label_row (oids_of c.args.ids.now number) t) (labels_from c.args.path.now ls 0 ls) c.args.rows.now c.add_labels.new.rows) c.as_slice-list.ensures (c.in_ok-add_labels.ensures number)
