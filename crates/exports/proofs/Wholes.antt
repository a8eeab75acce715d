-- What is known where an export is due.
use Rattle.std.proofs.Common.{◌≡◌, ℕ, Option, Some, None, Result, Ok, Err, refl, ap, subst}
use Rattle.dump_ports.specs.Tree.{Tree}
use Rattle.cat_model.specs.Values.{Bytes}
use Rattle.cat_rows.specs.declared.catalogue.Catalogue.{Catalogue}
use Rattle.cat_names.specs.declared.fault.CatFault.{CatFault}
use Rattle.cat_names.specs.DataSets.{TextsByOid}
use Rattle.well_formed.specs.Catalogues.{catalogue_fault}
use Rattle.table_rows.specs.declared.fault.ValuesFault.{ValuesFault}
use Rattle.table_rows.specs.Values.{values_fault}
use Rattle.folder_io.specs.declared.fault.FolderFault.{FolderFault}
use Rattle.folder_rows.specs.Reading.{data_of}
use Rattle.tool_words.specs.Answers.{◌>>=◌}
use Rattle.exports.specs.Exports.{Exported, told, well_formed, have_rows, export_with}

abbrev made : Catalogue → TextsByOid → Exported
made cat rows = record { cat = cat; rows = rows }

had : (cat : Catalogue) (rows : TextsByOid) (found : Option ValuesFault) (export : Exported) → (have_rows found >>= λ held. Ok (made cat rows)) ≡ Ok export → (found ≡ None) × (made cat rows ≡ export)
had cat rows None export e = (refl, cc)
had cat rows (Some fault) export e = cc

-- each of the steps went well
steps : (cat : Catalogue) (found : Option CatFault) (read : Result TextsByOid FolderFault) (fault : TextsByOid → Option ValuesFault) (export : Exported) → (well_formed found >>= λ formed. told read >>= λ rows. have_rows (fault rows) >>= λ held. Ok (made cat rows)) ≡ Ok export → (found ≡ None) × (read ≡ Ok export.rows) × (fault export.rows ≡ None)
steps cat (Some first) read fault export e = cc
steps cat None (Err refusal) fault export e = cc
steps cat None (Ok rows) fault export e =
    let h = had cat rows (fault rows) export e in
    (refl, ap (λ (x : Exported). Ok x.rows) h.1, subst (λ (x : Exported). fault x.rows ≡ None) h.1 h.0)

pub whole : (folder : Bytes) (used : ℕ) (cat : Catalogue) (tree : Tree) (export : Exported) → export_with folder used cat tree ≡ Ok export → (catalogue_fault cat ≡ None) × (data_of folder used cat tree ≡ Ok export.rows) × (values_fault cat export.rows ≡ None)
unfolding export_with
whole folder used cat tree export e = steps cat (catalogue_fault cat) (data_of folder used cat tree) (values_fault cat) export e
