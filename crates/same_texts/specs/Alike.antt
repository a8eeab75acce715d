-- Two folders that hold the same texts, as far as reading takes them.
use Rattle.std.specs.Prelude.{◌≡◌, ℕ, Some}
use Rattle.std.specs.List.{All}
use Rattle.std.specs.FinMap.{get}
use Rattle.dump_ports.specs.Tree.{Tree, text_at}
use Rattle.cat_rows.specs.declared.catalogue.Catalogue.{Catalogue}
use Rattle.cat_names.specs.DataSets.{TextsByOid}
use Rattle.folder_io.specs.declared.file.ExportFile.{ExportFile}
use Rattle.folder_io.specs.declared.file.ExportFile.TheVariants.{Marker, Table, Data}
use Rattle.folder_io.specs.declared.fault.FolderFault.{FolderFault}
use Rattle.folder_io.specs.declared.fault.FolderFault.TheVariants.{Failed, Memory}
use Rattle.folder_io.specs.Folders.{Bytes, all_tables, file_of}
use Rattle.table_rows.specs.Tables.{table_oids}

-- the file of both folders has one text
pub record HasSame (first second : Bytes) (tree : Tree) (file : ExportFile) : Type 0 where
  pub text : Bytes
  pub one : text_at tree (file_of first file) ≡ Some text
  pub other : text_at tree (file_of second file) ≡ Some text

-- the data file of a table has the text that stands for the table here
pub record IsData (folder : Bytes) (tree : Tree) (rows : TextsByOid) (oid : ℕ) : Type 0 where
  pub text : Bytes
  pub held : get rows oid ≡ Some text
  pub there : text_at tree (file_of folder (Data oid)) ≡ Some text

-- The marker and the files of all system tables have one text in both folders, and the data file of each of the
-- catalogue's tables has in the second the text that stands here, as it was read of the first.
pub record HoldSame (first second : Bytes) (tree : Tree) (cat : Catalogue) (rows : TextsByOid) : Type 0 where
  pub marker : HasSame first second tree Marker
  pub tables : All (λ table. HasSame first second tree (Table table)) all_tables
  pub data_files : All (IsData second tree rows) (table_oids cat)

-- a call of the files failed, or memory ran out
abbrev pub IsCutOff : FolderFault → Type 0
IsCutOff Failed = Unit {0}
IsCutOff Memory = Unit {0}
IsCutOff fault = ⊥
