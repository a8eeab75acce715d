-- Catalogues by names that began as an opening and can be exported, and the tables and texts of rows that are made of them.
use Rattle.std.specs.Prelude.{◌≡◌, ℕ, ℤ}
use Rattle.copy_text.specs.Rows.{spell_rows}
use Rattle.cat_rows.specs.declared.catalogue.Catalogue.{Catalogue}
use Rattle.cat_rows.specs.declared.roles.DatabaseRow.{DatabaseRow}
use Rattle.cat_model.specs.declared.object.QName.{QName}
use Rattle.cat_model.specs.Values.{Bytes, Named}
use Rattle.cat_names.specs.DataSets.{TextsByOid}
use Rattle.opening_laws.specs.Texts.{rows_by_oid}
use Rattle.cat_sound.specs.Sound.{IsSound}
use Rattle.table_rows.specs.Values.{text_of}
use Rattle.opening_laws.specs.Ids.{of_keys, oids_of}
use Rattle.named_objects.specs.Oids.{AreNumbers, AreCheckOids, AreLabelOids}
use Rattle.named_objects.specs.Standing.{AllStandFor}
use Rattle.named_objects.specs.Views.{AreKept}
use Rattle.named_tables.specs.Oids.{AreOids, IsStarted}
use Rattle.object_ids.specs.Ids.{IdsOf}
use Rattle.opening_ids.specs.Opening.{opening_ids}
use Rattle.opening_laws.specs.Keeping.{BeganAs, KeepRows}
use Rattle.sound_rows.specs.Rows.{IsAmong}
use Rattle.opening_laws.specs.Grammar.{grammar}
use Rattle.named_objects.specs.Formed.{IsWellFormed}

-- each text is the one that spells the rows which it holds
abbrev pub AreSpelled : TextsByOid → Type 0
AreSpelled texts = (oid : ℕ) → spell_rows (rows_by_oid texts oid) ≡ text_of texts oid

-- They stand for the catalogue, by oids that began as the opening's and by numbers of columns that rise, of which this database
-- is the current one; and they have the opening's columns of views and its dependencies.
pub record IsExport (opening : Catalogue) (named : Named) (ids : IdsOf) (number : QName → Bytes → ℤ) (current : Bytes) (cat : Catalogue) (texts : TextsByOid) : Type 0 where
  pub began : BeganAs opening ids
  pub oids : AreOids named (of_keys ids)
  pub numbers : AreNumbers named number
  pub checks : AreCheckOids named (oids_of ids number)
  pub labels : AreLabelOids named (oids_of ids number)
  pub stand : AllStandFor named (oids_of ids number) current opening.pg_depend cat (rows_by_oid texts)
  pub keep : KeepRows opening cat
  pub spelled : AreSpelled texts

-- the same by some oids and numbers
pub record IsExported (opening : Catalogue) (named : Named) (current : Bytes) (cat : Catalogue) (texts : TextsByOid) : Type 0 where
  pub ids : IdsOf
  pub number : QName → Bytes → ℤ
  pub is : IsExport opening named ids number current cat texts

-- The opening is well-formed, and the catalogue in order; it has the boot role, by the opening's oid of that role, and each of the opening's databases, so the
-- current one; and what tables that are made of it keep of the opening meets the conditions of these tables.
pub record CanBeExported (opening : Catalogue) (named : Named) : Type 0 where
  pub formed : IsWellFormed opening
  pub sound : IsSound grammar named
  pub started : (d : DatabaseRow) → IsAmong d opening.pg_database → IsStarted named (of_keys (opening_ids opening)) d.datname
  pub kept : (ids : IdsOf) (number : QName → Bytes → ℤ) (current : Bytes) (cat : Catalogue) (texts : TextsByOid) → IsExport opening named ids number current cat texts → AreKept cat
