-- What the export of an opening that became a catalogue makes.
use Rattle.std.proofs.Common.{◌≡◌, Option, Some, None, Result, Ok, Err, IfOk, subst}
use Rattle.std.specs.FinMap.{empty, entries}
use Rattle.std.specs.Prelude.{IfSome, OnOk}
use Rattle.cat_rows.specs.declared.catalogue.Catalogue.{Catalogue}
use Rattle.cat_model.specs.Values.{Bytes, Named}
use Rattle.cat_names.specs.DataSets.{TextsByOid}
use Rattle.cat_naming.specs.Texts.{rows_by_oid}
use Rattle.cat_sound.specs.Sound.{IsSound}
use Rattle.column_numbers.specs.Numbers.{NumbersOf, number_of}
use Rattle.column_numbers.specs.Rule.{with_entries}
use Rattle.eng_tables.specs.Oids.{IsLeastUnused}
use Rattle.whole_export.specs.Entries.{AreUnused}
use Rattle.object_ids.specs.Ids.{IdsOf, KeepIds}
use Rattle.opening_ids.specs.Opening.{opening_ids}
use Rattle.opening_written.specs.Export.{CanBeExported, IsExported}
use Rattle.sound_texts.specs.Grammar.{grammar}
use Rattle.whole_export.specs.Data.{with_all_rows}
use Rattle.whole_export.specs.Made.{Stands}
use Rattle.whole_export.specs.declared.exporting.Exported.{Exported}
use Rattle.script_runs.specs.Writing.{NoOidIsLeft}
use Rattle.script_runs.proofs.Spelled.{are_spelled}

pub is_exported : (opening : Catalogue) (named : Named) (ids : IdsOf) (had : NumbersOf) (current : Bytes) (cat : Catalogue) (texts : TextsByOid) → KeepIds (opening_ids opening) ids → AreUnused (opening_ids opening) ids
    → Stands named ids (with_entries had (entries named) empty) current opening cat (rows_by_oid texts) → texts ≡ with_all_rows ids (entries named) empty → IsExported opening named current cat texts
is_exported opening named ids had current cat texts keep unused stands are = record {
  ids = ids;
  number = number_of (with_entries had (entries named) empty);
  is = record {
    began = record { keep = keep; unused = unused };
    oids = stands.oids;
    numbers = stands.rising;
    checks = stands.checks;
    labels = stands.labels;
    stand = stands.all;
    keep = record { columns = stands.others; depends = stands.all.dependencies };
    spelled = are_spelled named ids texts are stands.all.rows_held;
  };
}

-- ---- what a call of it answered

pub made_by : {E : Type 0} (opening : Catalogue) (named : Named) (old new : IdsOf) (had : NumbersOf) (current : Bytes) (r : Result (Option Exported) E) → old ≡ opening_ids opening
    → IfOk r (λ made. IfSome made (λ out. IsSound grammar named → Stands named new (with_entries had (entries named) empty) current opening out.catalogue (rows_by_oid out.rows)))
    → IfOk r (λ made. IfSome made (λ out. out.rows ≡ with_all_rows new (entries named) empty)) → OnOk r (KeepIds old new) → OnOk r (AreUnused old new)
    → IfOk r (λ made. IfSome made (λ out. CanBeExported opening named → IsExported opening named current out.catalogue out.rows))
made_by opening named old new had current (Ok (Some out)) is stands rows keep unused =
    λ can. is_exported opening named new had current out.catalogue out.rows (subst (λ (ids : IdsOf). KeepIds ids new) is keep) (subst (λ (ids : IdsOf). AreUnused ids new) is unused) (stands can.sound) rows
made_by opening named old new had current (Ok None) is stands rows keep unused = tt
made_by opening named old new had current (Err error) is stands rows keep unused = tt

pub left_by : {E : Type 0} (opening : Catalogue) (old new : IdsOf) (r : Result (Option Exported) E) → old ≡ opening_ids opening → IfOk r (λ made. made ≡ None → IsLeastUnused new.used None) → OnOk r (KeepIds old new) → OnOk r (AreUnused old new)
    → IfOk r (λ made. made ≡ None → NoOidIsLeft opening)
left_by opening old new (Ok made) is left keep unused =
    λ none. record { ids = new; began = record { keep = subst (λ (ids : IdsOf). KeepIds ids new) is keep; unused = subst (λ (ids : IdsOf). AreUnused ids new) is unused }; all_used = left none }
left_by opening old new (Err error) is left keep unused = tt
