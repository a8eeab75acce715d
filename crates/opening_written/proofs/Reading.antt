-- Tables that are made of what can be exported stand for it once their rows are in order, too.
use Rattle.std.proofs.Common.{◌≡◌, ℤ, None}
use Rattle.cat_rows.specs.declared.catalogue.Catalogue.{Catalogue}
use Rattle.cat_model.specs.declared.object.QName.{QName}
use Rattle.cat_model.specs.Values.{Bytes, Named}
use Rattle.cat_names.specs.DataSets.{TextsByOid}
use Rattle.cat_naming.specs.Entries.{catalogue_named}
use Rattle.cat_naming.specs.Texts.{rows_by_oid}
use Rattle.opening_sound.specs.Ids.{of_keys, oids_of}
use Rattle.exports.specs.Exports.{Exported}
use Rattle.reordered_rows.specs.Standing.{AllStandFor}
use Rattle.reordered_rows.proofs.Formed.{all_formed}
use Rattle.reordered_rows.proofs.Whole.{whole_named}
use Rattle.named_tables.specs.Oids.{IsStarted}
use Rattle.object_ids.specs.Ids.{IdsOf}
use Rattle.opening_ids.specs.Opening.{opening_ids}
use Rattle.opening_sound.specs.Export.{IsExport, CanBeExported}
use Rattle.opening_sound.proofs.Made.{still_started, made_formed}
use Rattle.reordered_rows.proofs.Kept.{stay_kept}
use Rattle.reordered_rows.proofs.Tables.{all_stand}
use Rattle.reordered_rows.specs.Exports.{IsReordered}
use Rattle.sound_texts.specs.Grammar.{grammar}
use Rattle.well_formed.specs.Catalogues.{catalogue_fault}
use Rattle.well_formed.specs.Formed.{IsWellFormed}
use Rattle.well_formed.proofs.Formed.{without_fault}

module _ (opening : Catalogue) (named : Named) (can : CanBeExported opening named) (ids : IdsOf) (number : QName → Bytes → ℤ) (current : Bytes) (cat : Catalogue) (rows : TextsByOid) (of : IsExport opening named ids number current cat rows)
    (was : IsStarted named (of_keys (opening_ids opening)) current) (read : Exported) (again : IsReordered cat rows read) where
  well : IsWellFormed cat
  well = made_formed opening named can ids number current cat rows of was

  read_stands : AllStandFor named (oids_of ids number) current opening.pg_depend read.cat (rows_by_oid read.rows)
  read_stands = all_stand grammar named can.sound (oids_of ids number) of.oids current opening.pg_depend cat rows well of.stand read again

  pub read_formed : catalogue_fault read.cat ≡ None
  read_formed =
      without_fault read.cat
      (all_formed grammar named (oids_of ids number) current opening.pg_depend read.cat (rows_by_oid read.rows) can.sound of.oids (still_started opening named can ids number current cat rows of was) of.numbers of.checks of.labels
      (stay_kept grammar named can.sound (oids_of ids number) of.oids current opening.pg_depend cat rows well of.stand read again (can.kept ids number current cat rows of))
      read_stands)

  pub read_same : catalogue_named read.cat (rows_by_oid read.rows) ≡ named
  read_same = whole_named grammar named can.sound (oids_of ids number) of.oids of.numbers of.checks current opening.pg_depend read.cat (rows_by_oid read.rows) read_stands
