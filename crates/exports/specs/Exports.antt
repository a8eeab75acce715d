-- An export folder, read whole: its catalogue, which is well-formed, and the texts of its tables' rows.
use Rattle.std.specs.Coded.{Coded, coded_ℕ, coded_list}
use Rattle.std.specs.FinMap.{code}
use Rattle.std.specs.Prelude.{ℕ, Option, Some, None, Result, Ok, Err}
use Rattle.dump_ports.specs.Tree.{Tree}
use Rattle.cat_model.specs.Values.{Bytes}
use Rattle.cat_rows.specs.declared.catalogue.Catalogue.{Catalogue}
use Rattle.cat_names.specs.declared.fault.CatFault.{CatFault}
use Rattle.cat_names.specs.DataSets.{TextsByOid}
use Rattle.well_formed.specs.Catalogues.{catalogue_fault}
use Rattle.table_rows.specs.declared.fault.ValuesFault.{ValuesFault}
use Rattle.table_rows.specs.Values.{values_fault}
use Rattle.folder_io.specs.declared.fault.FolderFault.{FolderFault}
use Rattle.folder_io.specs.Folders.{bytes_of, catalogue_of}
use Rattle.folder_rows.specs.Reading.{data_of}
use Rattle.tool_words.specs.declared.outcome.Outcome.{Outcome}
use Rattle.tool_words.specs.Answers.{◌>>=◌}
use Rattle.tool_words.specs.Outcomes.{folder_outcome, fault_outcome, values_outcome}
use Rattle.exports.specs.Cells.{catalogue_with}

-- what an export holds: a catalogue, and the text of each table's rows
pub record Exported : Type 0 where
  pub cat : Catalogue
  pub rows : TextsByOid

-- texts by oid are stored as a finite map is
abbrev pub texts_code : Coded TextsByOid
texts_code = code coded_ℕ (coded_list coded_ℕ)

-- what was read of the folder; a fault is told as its outcome
abbrev pub told : {A : Type 0} → Result A FolderFault → Result A Outcome
told (Ok x) = Ok x
told (Err fault) = Err (folder_outcome fault)

-- the rows of the system tables fit together
abbrev pub well_formed : Option CatFault → Result (Unit {0}) Outcome
well_formed None = Ok tt
well_formed (Some fault) = Err (fault_outcome fault fault.kind)

-- the texts hold rows of their tables
abbrev pub have_rows : Option ValuesFault → Result (Unit {0}) Outcome
have_rows None = Ok tt
have_rows (Some fault) = Err (values_outcome fault)

-- the export with this catalogue, whose files have so many bytes: it is well-formed, its data files are read, and their
-- texts hold rows
unfoldable pub export_with : Bytes → ℕ → Catalogue → Tree → Result Exported Outcome
export_with folder used cat tree = do
  formed ← well_formed (catalogue_fault cat)
  rows ← told (data_of folder used cat tree)
  held ← have_rows (values_fault cat rows)
  Ok (record { cat = cat; rows = rows })

-- the export that a folder holds: the tables of the catalogue are read, and then all else
unfoldable pub export_of : Bytes → Tree → Result Exported Outcome
export_of folder tree = do
  tables ← told (catalogue_of folder tree)
  export_with folder (bytes_of folder tree) (catalogue_with tables) tree

-- a catalogue whose rows fit together
abbrev pub formed_with : Catalogue → Result Catalogue Outcome
formed_with cat = well_formed (catalogue_fault cat) >>= λ formed. Ok cat

-- the catalogue that a folder holds: its tables are read, and fit together
unfoldable pub formed_of : Bytes → Tree → Result Catalogue Outcome
formed_of folder tree = told (catalogue_of folder tree) >>= λ tables. formed_with (catalogue_with tables)

-- the catalogue and the texts that a folder holds, of which it isn't told yet whether they are rows: the steps of an export
-- but the last one
unfoldable pub texts_with : Bytes → ℕ → Catalogue → Tree → Result Exported Outcome
texts_with folder used cat tree = do
  formed ← well_formed (catalogue_fault cat)
  rows ← told (data_of folder used cat tree)
  Ok (record { cat = cat; rows = rows })

unfoldable pub texts_of : Bytes → Tree → Result Exported Outcome
texts_of folder tree = do
  tables ← told (catalogue_of folder tree)
  texts_with folder (bytes_of folder tree) (catalogue_with tables) tree

-- and the last one: the texts hold rows of their tables
abbrev pub held : Exported → Result Exported Outcome
held texts = have_rows (values_fault texts.cat texts.rows) >>= λ done. Ok texts
