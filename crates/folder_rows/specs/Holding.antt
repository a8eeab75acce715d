-- The rows of a folder's tables, said apart from reading.
use Rattle.std.specs.Prelude.{◌≡◌, ℕ, ◌+◌, ◌≤◌, All, Some, None, IsSome, if◌then◌else◌}
use Rattle.std.specs.List.{sum_by}
use Rattle.std.specs.FinMap.{get}
use Rattle.dump_ports.specs.Tree.{Tree, text_at, bytes_at}
use Rattle.cat_rows.specs.declared.catalogue.Catalogue.{Catalogue}
use Rattle.cat_names.specs.DataSets.{TextsByOid}
use Rattle.cat_names.specs.Lookups.{has_oid}
use Rattle.folder_io.specs.declared.file.ExportFile.TheVariants.{Data}
use Rattle.folder_io.specs.declared.fault.FolderLimit.TheVariants.{DataFile, Folder}
use Rattle.folder_io.specs.Folders.{Bytes, most_bytes, file_of, file_length}
use Rattle.table_rows.specs.Tables.{table_oids}

-- Each table has its data file, the files are within the limits, and the texts are those of the files, for no oid but
-- those of the tables.
pub record HoldsRows (folder : Bytes) (used : ℕ) (cat : Catalogue) (tree : Tree) (rows : TextsByOid) : Type 0 where
  pub there : All (λ oid. IsSome (text_at tree (file_of folder (Data oid)))) (table_oids cat)
  pub limited : All (λ oid. file_length folder tree (Data oid) ≤ most_bytes DataFile) (table_oids cat)
  pub fits : used + sum_by (λ oid. file_length folder tree (Data oid)) (table_oids cat) ≤ most_bytes Folder
  pub texts : (oid : ℕ) → get rows oid ≡ (if has_oid (table_oids cat) oid then Some (bytes_at tree (file_of folder (Data oid))) else None)
