-- Texts that are made of what an opening became stand for it, or aren't written.
use Rattle.std.proofs.Common.{◌≡◌, ◌||◌, inl, inr, ℤ, List, [], ◌∷◌, Bool, true, false, cond, Option, Some, None, Result, Ok, Err, IfOk, IfErr, refl, sym, subst}
use Rattle.std.specs.FinMap.{empty}
use Rattle.std.specs.List.{find, list_any}
use Rattle.std.specs.Option.{option_map}
use Rattle.cat_rows.specs.declared.catalogue.Catalogue.{Catalogue}
use Rattle.cat_rows.specs.declared.roles.DatabaseRow.{DatabaseRow}
use Rattle.cat_model.specs.declared.object.QName.{QName}
use Rattle.cat_model.specs.Values.{Bytes, Named}
use Rattle.cat_names.specs.DataSets.{TextsByOid}
use Rattle.whole_export.specs.Ids.{of_keys}
use Rattle.openings.specs.Exports.{Exported, export_of}
use Rattle.named_tables.specs.Oids.{IsStarted}
use Rattle.object_ids.specs.Ids.{IdsOf}
use Rattle.openings.specs.Openings.{export_named}
use Rattle.opening_ids.specs.Opening.{opening_ids}
use Rattle.opening_written.specs.Export.{CanBeExported, IsExport, IsExported}
use Rattle.opening_written.proofs.Reading.{read_same}
use Rattle.opening_written.specs.Reading.{IsReadOrTooLarge}
use Rattle.saved_folders.specs.Exports.{WithTexts, ReadsAs, IsReordered, HasNoTexts}
use Rattle.saved_folders.specs.Folders.{Texts, AreTexts, folder_saved}
use Rattle.sound_rows.specs.Rows.{IsAmong}
use Rattle.sound_rows.proofs.Among.{find_found}
use Rattle.tool_words.specs.declared.outcome.Outcome.{Outcome}
use Rattle.tool_words.specs.declared.outcome.Outcome.TheVariants.{Done, Usage, ReadFault, WriteFault, Missing, BadExport, BadScript, OutOfProfile, TooLarge, Differs, ScriptStopped, BadArchive, BadList, BadDefn, WithErrors, RestoreStopped, Loop, NoMatch, Memory}
use Rattle.script_runs.specs.Writing.{current_name, IsUnwritten, StandFor}

-- ---- the current database

pub current_among : (rows : List DatabaseRow) (name : Bytes) → current_name rows ≡ Some name → (d : DatabaseRow) × IsAmong d rows × (d.datname ≡ name)
current_among rows name is = by (find (λ (d : DatabaseRow). d.datcurrent) rows) refl is
  where
    by : (o : Option DatabaseRow) → find (λ (d : DatabaseRow). d.datcurrent) rows ≡ o → option_map (λ (d : DatabaseRow). d.datname) o ≡ Some name → (d : DatabaseRow) × IsAmong d rows × (d.datname ≡ name)
    by None e h = absurd cc
    by (Some d) e h = let same : d.datname ≡ name = cc in (d, (find_found (λ (r : DatabaseRow). r.datcurrent) rows d e).0, same)

none_found : (rows : List DatabaseRow) → list_any (λ (d : DatabaseRow). d.datcurrent) rows ≡ true → current_name rows ≡ None → ⊥
none_found [] some is = absurd cc
none_found (d ∷ rows) some is = by (none_found rows) d.datcurrent some is
  where
    by : (list_any (λ (r : DatabaseRow). r.datcurrent) rows ≡ true → current_name rows ≡ None → ⊥) → (b : Bool) → b || list_any (λ (r : DatabaseRow). r.datcurrent) rows ≡ true → option_map (λ (r : DatabaseRow). r.datname) (cond b (Some d) (find (λ (r : DatabaseRow). r.datcurrent) rows)) ≡ None → ⊥
    by more true s h = absurd cc
    by more false s h = more s h

pub some_current : (opening : Catalogue) (named : Named) → CanBeExported opening named → current_name opening.pg_database ≡ None → ⊥
some_current opening named can is = none_found opening.pg_database can.formed.databases.needed is

-- ---- what is made

module _ (opening : Catalogue) (named : Named) (current : Bytes) (is_current : current_name opening.pg_database ≡ Some current) (cat : Catalogue) (rows : TextsByOid) (made : CanBeExported opening named → IsExported opening named current cat rows) where
  stands : (read : Exported) → IsReordered cat rows read → CanBeExported opening named → export_named read ≡ named
  unfolding export_named
  stands read again can =
      let d = current_among opening.pg_database current is_current in
      let it = made can in
      let was = subst (IsStarted named (of_keys (opening_ids opening))) d.2 (can.started d.0 d.1) in
      read_same opening named can it.ids it.number current cat rows it.is was read again

  pub stand_for : (r : Result WithTexts Outcome) → IfOk r (λ t. ReadsAs t.texts t.export) → IfOk r (λ t. IsReordered cat rows t.export) → IfOk r (λ t. CanBeExported opening named → StandFor opening named t)
  stand_for (Ok t) reads again = λ can. record { reads = reads; same = stands t.export again can; made_of = record { current = current; is_current = is_current; cat = cat; rows = rows; exported = made can; order = again } }
  stand_for (Err outcome) reads again = tt

  -- a folder of it is read, or is past a limit
  abbrev pub AreRead : Type 0
  AreRead = (d : DatabaseRow) (ids : IdsOf) (number : QName → Bytes → ℤ) (texts : Texts) → CanBeExported opening named → IsAmong d opening.pg_database → IsExport opening named ids number d.datname cat rows → AreTexts cat rows texts → IsReadOrTooLarge (export_of [] (folder_saved [] texts empty))

  read_so : AreRead → CanBeExported opening named → (texts : Texts) → AreTexts cat rows texts → IsReadOrTooLarge (export_of [] (folder_saved [] texts empty))
  read_so are can texts of =
      let d = current_among opening.pg_database current is_current in
      let it = made can in
      are d.0 it.ids it.number texts can d.1 (subst (λ (n : Bytes). IsExport opening named it.ids it.number n cat rows) (sym d.2) it.is) of

  past_limit : (outcome : Outcome) → IsReadOrTooLarge (Err outcome) → (texts : Texts) → AreTexts cat rows texts → export_of [] (folder_saved [] texts empty) ≡ Err outcome → CanBeExported opening named → IsUnwritten opening named outcome
  past_limit Done is texts of refused can = elim is [ ]
  past_limit (Usage word kind) is texts of refused can = elim is [ ]
  past_limit ReadFault is texts of refused can = elim is [ ]
  past_limit WriteFault is texts of refused can = elim is [ ]
  past_limit (Missing name) is texts of refused can = elim is [ ]
  past_limit (BadExport file line kind) is texts of refused can = elim is [ ]
  past_limit (BadScript fault) is texts of refused can = elim is [ ]
  past_limit (OutOfProfile what) is texts of refused can = elim is [ ]
  past_limit (TooLarge limit most) is texts of refused can = record { current = current; is_current = is_current; cat = cat; rows = rows; exported = made can; texts = texts; spelled = of; refused = refused }
  past_limit (Differs key) is texts of refused can = elim is [ ]
  past_limit (ScriptStopped stop) is texts of refused can = elim is [ ]
  past_limit (BadArchive fault) is texts of refused can = elim is [ ]
  past_limit (BadList fault) is texts of refused can = elim is [ ]
  past_limit (BadDefn entry fault) is texts of refused can = elim is [ ]
  past_limit (WithErrors errors) is texts of refused can = elim is [ ]
  past_limit (RestoreStopped stop) is texts of refused can = elim is [ ]
  past_limit (Loop path) is texts of refused can = elim is [ ]
  past_limit (NoMatch pattern) is texts of refused can = elim is [ ]
  past_limit Memory is texts of refused can = elim is [ ]

  unread : AreRead → CanBeExported opening named → (outcome : Outcome) → HasNoTexts cat rows outcome → IsUnwritten opening named outcome
  unread are can outcome (inl memory) = subst (IsUnwritten opening named) (sym memory) tt
  unread are can outcome (inr none) = past_limit outcome (subst IsReadOrTooLarge none.2 (read_so are can none.0 none.1)) none.0 none.1 none.2 can

  pub unwritten : AreRead → (r : Result WithTexts Outcome) → IfErr r (HasNoTexts cat rows) → IfErr r (λ outcome. CanBeExported opening named → IsUnwritten opening named outcome)
  unwritten are (Ok t) none = tt
  unwritten are (Err outcome) none = λ can. unread are can outcome none
