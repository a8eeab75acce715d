use Rattle.std.proofs.Common.{◌≡◌, ℤ, sym, subst, OnOk}
use Rattle.cat_model.specs.declared.key.Key.{Key}
use Rattle.cat_model.specs.declared.key.Key.TheVariants as key
use Rattle.cat_model.specs.declared.object.QName.{QName}
use Rattle.cat_model.specs.declared.value.Value.{Value}
use Rattle.cat_model.specs.Values.{Bytes}
use Rattle.cluster_loops.specs.Ids.{oids_of}
use Rattle.object_export.specs.Types.{NamedLabel, label_row}
use Rattle.object_export.specs.Parts.{labels_in}
use Rattle.object_loops.specs.Adding.{Adds}
use Rattle.object_loops.proofs.labels.add_entry.Goals as goal

pub returns-in-UserType-Enum : goal.returns-in-UserType-Enum
returns-in-UserType-Enum c =
    let ids = c.args.ids.now in
    let before = c.args.rows.now in
    let after = c.add_enum.new.rows in
    subst (λ (k : Key). OnOk c.add_enum.result ((number : QName → Bytes → ℤ) → Adds (λ (t : NamedLabel) row. row ≡ label_row (oids_of ids number) t) (labels_in (k, c.args.value.now)) before after)) (sym c.in-UserType-Enum.is-0)
    (subst (λ (v : Value). OnOk c.add_enum.result ((number : QName → Bytes → ℤ) → Adds (λ (t : NamedLabel) row. row ≡ label_row (oids_of ids number) t) (labels_in (key.UserType c.in-UserType-Enum.path, v)) before after)) (sym c.in-UserType-Enum.is-1)
    c.add_enum.ensures)
