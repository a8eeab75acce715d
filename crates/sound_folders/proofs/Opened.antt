-- A folder that is taken in is loaded without a fault.
use Rattle.std.proofs.Common.{◌≡◌, ℕ, List, Option, Some, None, Result, Ok, Err, refl, subst}
use Rattle.dump_ports.specs.Tree.{Tree}
use Rattle.cat_rows.specs.declared.catalogue.Catalogue.{Catalogue}
use Rattle.cat_model.specs.Values.{Bytes}
use Rattle.cat_names.specs.declared.fault.CatFault.{CatFault}
use Rattle.cat_names.specs.DataSets.{TextsByOid}
use Rattle.cat_names.specs.Naming.{boot}
use Rattle.well_formed.specs.Catalogues.{catalogue_fault}
use Rattle.table_rows.specs.declared.fault.ValuesFault.{ValuesFault}
use Rattle.table_rows.specs.Values.{values_fault}
use Rattle.cat_load.specs.Loads.{rows_fault}
use Rattle.cat_load.specs.declared.meeting.LoadFault.{LoadFault}
use Rattle.folder_io.specs.declared.fault.FolderFault.{FolderFault}
use Rattle.folder_io.specs.Folders.{bytes_of, catalogue_of}
use Rattle.folder_rows.specs.Reading.{data_of}
use Rattle.tool_words.specs.Answers.{◌>>=◌}
use Rattle.exports.specs.Cells.{catalogue_with}
use Rattle.exports.specs.Exports.{Exported, told, well_formed, have_rows, export_with, export_of}
use Rattle.openings.specs.Openings.{meet, opened, opened_folder, export_named}
use Rattle.ddl_scripts.specs.declared.located.Located.{Located}
use Rattle.ddl_scripts.specs.Reading.{statements_of}
use Rattle.ddl_scripts.specs.Spellings.{said}
use Rattle.model_laws.specs.Examples.{catalogue_after}
use Rattle.cat_sound.specs.Sound.{IsSound}
use Rattle.sound_texts.specs.Grammar.{grammar}
use Rattle.sound_whole.specs.Loaded.{IsLoaded}
use Rattle.sound_whole.proofs.Loaded.{sound, script_sound}

abbrev made : Catalogue → TextsByOid → Exported
made cat rows = record { cat = cat; rows = rows }

rows_met : (export other : Exported) (fault : Option LoadFault) → rows_fault export.cat export.rows ≡ fault → (meet fault >>= λ done. Ok export) ≡ Ok other → (rows_fault export.cat export.rows ≡ None) × (export ≡ other)
rows_met export other None is e = (is, cc)
rows_met export other (Some fault) is e = absurd cc

had : (cat : Catalogue) (rows : TextsByOid) (found : Option ValuesFault) (export : Exported) → ((have_rows found >>= λ held. Ok (made cat rows)) >>= opened) ≡ Ok export → (rows_fault cat rows ≡ None) × (made cat rows ≡ export)
had cat rows None export e = rows_met (made cat rows) export (rows_fault cat rows) refl e
had cat rows (Some fault) export e = absurd cc

steps : (cat : Catalogue) (found : Option CatFault) (read : Result TextsByOid FolderFault) (fault : TextsByOid → Option ValuesFault) (export : Exported) → catalogue_fault cat ≡ found → ((well_formed found >>= λ formed. told read >>= λ rows. have_rows (fault rows) >>= λ held. Ok (made cat rows)) >>= opened) ≡ Ok export → IsLoaded export.cat export.rows
steps cat (Some first) read fault export is e = absurd cc
steps cat None (Err refusal) fault export is e = absurd cc
steps cat None (Ok rows) fault export is e =
    let h = had cat rows (fault rows) export e in
    subst (λ (x : Exported). IsLoaded x.cat x.rows) h.1 (record { tables = is; rows = h.0 })

pub is_loaded : (folder : Bytes) (tree : Tree) (export : Exported) → opened_folder folder tree ≡ Ok export → IsLoaded export.cat export.rows
unfolding opened_folder export_of export_with
is_loaded folder tree export e = by (catalogue_of folder tree) e
  where
    by : (r : Result _ FolderFault) → ((told r >>= λ tables. export_with folder (bytes_of folder tree) (catalogue_with tables) tree) >>= opened) ≡ Ok export → IsLoaded export.cat export.rows
    by (Err fault) h = absurd cc
    by (Ok tables) h = steps (catalogue_with tables) (catalogue_fault (catalogue_with tables)) (data_of folder (bytes_of folder tree) (catalogue_with tables) tree) (values_fault (catalogue_with tables)) export refl h

pub folder_sound : (folder : Bytes) (tree : Tree) (export : Exported) → opened_folder folder tree ≡ Ok export → IsSound grammar (export_named export)
unfolding export_named
folder_sound folder tree export e = sound export.cat export.rows (is_loaded folder tree export e)

pub scripted_sound : (folder : Bytes) (tree : Tree) (export : Exported) (role : Bytes) (text : List ℕ) (found : List Located) → opened_folder folder tree ≡ Ok export → boot export.cat ≡ Some role → statements_of text ≡ Ok found → IsSound grammar (catalogue_after role (said found) (export_named export))
unfolding export_named
scripted_sound folder tree export role text found e is read = script_sound export.cat export.rows (is_loaded folder tree export e) role text found is read
