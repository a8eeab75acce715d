-- The files of an export folder with their texts, in the order in which they are written: those of the rows of tables by
-- rising oid, those of the fifteen system tables in their order, and the marker last.
use Rattle.std.specs.Prelude.{◌≡◌, ℕ, List, [], ◌∷◌, ◌++◌, map}
use Rattle.std.specs.List.{AllByRecursion}
use Rattle.dump_ports.specs.Tree.{Tree}
use Rattle.cat_rows.specs.declared.cell.Cell.{Cell}
use Rattle.cat_rows.specs.declared.catalogue.Catalogue.{Catalogue}
use Rattle.cat_rows.specs.Catalogues.{rows_in}
use Rattle.cat_rows.specs.Writing.{IsWritten}
use Rattle.cat_model.specs.Values.{Bytes}
use Rattle.cat_names.specs.DataSets.{TextsByOid}
use Rattle.table_rows.specs.Tables.{table_oids}
use Rattle.table_rows.specs.Values.{text_of}
use Rattle.folder_io.specs.declared.file.ExportFile.{ExportFile}
use Rattle.folder_io.specs.declared.file.ExportFile.TheVariants.{Marker, Table, Data}
use Rattle.folder_io.specs.Folders.{TextOfTable, all_tables, file_of, marker}
use Rattle.saved_folders.specs.Files.{File, saved}

-- a table by its oid, and the text of its rows
pub record DataText : Type 0 where
  pub oid : ℕ
  pub text : Bytes

-- the texts of a folder: of the rows of tables, and of the system tables
pub record Texts : Type 0 where
  pub rows : List DataText
  pub tables : List TextOfTable

-- ---- the files

-- a file of the folder
abbrev pub file_in : Bytes → ExportFile → Bytes → File
file_in folder file text = record { name = file_of folder file; text = text }

abbrev pub data_written : Bytes → DataText → File
data_written folder put = file_in folder (Data put.oid) put.text

abbrev pub table_written : Bytes → TextOfTable → File
table_written folder table = file_in folder (Table table.table) table.text

abbrev pub marker_written : Bytes → File
marker_written folder = file_in folder Marker marker

-- those before the marker
abbrev pub front_files : Bytes → Texts → List File
front_files folder texts = map (data_written folder) texts.rows ++ map (table_written folder) texts.tables

-- all of them, in the order in which they are written
abbrev pub files_of : Bytes → Texts → List File
files_of folder texts = front_files folder texts ++ marker_written folder ∷ []

-- the tree once the whole folder is written; other names keep what they hold
abbrev pub folder_saved : Bytes → Texts → Tree → Tree
folder_saved folder texts tree = saved (files_of folder texts) tree

-- ---- the texts of an export

-- the text of a system table: its rows in the table's order, a line each
pub record IsTextOf (cat : Catalogue) (text : TextOfTable) : Type 0 where
  pub rows : List (List Cell)
  pub written : IsWritten text.table (rows_in text.table cat) rows [] text.text

-- the text put for a table; none is the empty text
abbrev pub data_text : TextsByOid → ℕ → DataText
data_text rows oid = record { oid = oid; text = text_of rows oid }

-- the texts of the folder of a catalogue and the rows of its tables
pub record AreTexts (cat : Catalogue) (rows : TextsByOid) (texts : Texts) : Type 0 where
  pub put : texts.rows ≡ map (data_text rows) (table_oids cat)
  pub tables : map (λ text. text.table) texts.tables ≡ all_tables
  pub written : AllByRecursion (IsTextOf cat) texts.tables

-- the texts of these tables, and those put for these oids
abbrev pub texts_with : TextsByOid → List ℕ → List TextOfTable → Texts
texts_with rows oids tables = record { rows = map (data_text rows) oids; tables = tables }
