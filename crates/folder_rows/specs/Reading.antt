-- The texts of a folder's data files: those of the catalogue's tables by rising oid, within the limits.
use Rattle.std.specs.Prelude.{ℕ, ◌+◌, List, [], ◌∷◌, length, Result, Ok, Err, nat_le, if◌then◌else◌}
use Rattle.std.specs.FinMap.{from_entries}
use Rattle.dump_ports.specs.Tree.{Tree}
use Rattle.cat_rows.specs.declared.catalogue.Catalogue.{Catalogue}
use Rattle.cat_names.specs.DataSets.{TextsByOid}
use Rattle.folder_io.specs.declared.file.ExportFile.TheVariants.{Data}
use Rattle.folder_io.specs.declared.fault.FolderLimit.TheVariants.{DataFile, Folder}
use Rattle.folder_io.specs.declared.fault.FolderFault.{FolderFault}
use Rattle.folder_io.specs.declared.fault.FolderFault.TheVariants.{TooLarge}
use Rattle.folder_io.specs.Answers.{◌>>=◌}
use Rattle.folder_io.specs.Folders.{Bytes, most_bytes, file_text}
use Rattle.table_rows.specs.Tables.{table_oids}

-- the text of a table's data file
abbrev pub data_text : Bytes → Tree → ℕ → Result Bytes FolderFault
data_text folder tree oid = file_text DataFile folder tree (Data oid)

-- this many bytes are within the limit of a folder
abbrev pub total_of : ℕ → Result (Unit {0}) FolderFault
total_of bytes = if nat_le bytes (most_bytes Folder) then Ok tt else Err (TooLarge Folder (most_bytes Folder + 1))

-- the texts of these tables, where this many bytes are used before them
unfoldable pub texts_from : Bytes → Tree → ℕ → List ℕ → Result (List (ℕ × Bytes)) FolderFault
texts_from folder tree used [] = Ok []
texts_from folder tree used (oid ∷ oids) = do
  text ← data_text folder tree oid
  done ← total_of (used + length text)
  texts ← texts_from folder tree (used + length text) oids
  Ok ((oid, text) ∷ texts)

-- the same by the tables' oids
unfoldable pub rows_from : Bytes → Tree → ℕ → List ℕ → Result TextsByOid FolderFault
rows_from folder tree used oids = do
  texts ← texts_from folder tree used oids
  Ok (from_entries texts)

-- the texts of the catalogue's tables
unfoldable pub data_of : Bytes → ℕ → Catalogue → Tree → Result TextsByOid FolderFault
data_of folder used cat tree = do
  done ← total_of used
  rows_from folder tree used (table_oids cat)
