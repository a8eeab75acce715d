-- Worked examples of folders, whose name is D, and of texts.
use Rattle.std.specs.Prelude.{◌≡◌, List, [], ◌∷◌, map, None, Result, Ok, Err, true, negsuc, codes}
use Rattle.std.specs.FinMap.{empty, insert}
use Rattle.dump_ports.specs.Tree.{Tree}
use Rattle.cat_rows.specs.declared.table.SysTable.{SysTable}
use Rattle.cat_rows.specs.declared.table.SysTable.TheVariants.{PgAuthid, PgDatabase, PgNamespace, PgEnum, PgDepend}
use Rattle.cat_rows.specs.declared.cell.Cell.{Cell}
use Rattle.cat_rows.specs.declared.fault.RowFault.TheVariants as row_faults
use Rattle.cat_rows.specs.declared.catalogue.Catalogue.{Catalogue}
use Rattle.cat_rows.specs.Catalogues.{no_rows}
use Rattle.folder_io.specs.declared.file.ExportFile.{ExportFile}
use Rattle.folder_io.specs.declared.file.ExportFile.TheVariants.{Marker, Table, Data}
use Rattle.folder_io.specs.declared.fault.ExportKind.TheVariants.{Version, Row}
use Rattle.folder_io.specs.declared.fault.FolderFault.{FolderFault}
use Rattle.folder_io.specs.declared.fault.FolderFault.TheVariants.{Missing, BadExport}
use Rattle.folder_io.specs.Folders.{Bytes, all_tables, marker, file_name, file_of, rows_of, bytes_of, catalogue_of, catalogue_rows}

-- a file by its name
pub record File : Type 0 where
  pub name : Bytes
  pub text : Bytes

-- the tree of these files; of two with one name the first counts
abbrev pub tree_of : List File → Tree
tree_of [] = empty
tree_of (file ∷ files) = insert (tree_of files) file.name file.text

-- a file of the folder
abbrev pub in_folder : ExportFile → Bytes → File
in_folder file text = record { name = file_of (codes "D") file; text = text }

abbrev pub bad_version : FolderFault
bad_version = BadExport Marker 1 Version

-- what is due of a folder that has nothing but a marker of this text
abbrev pub due_of_marker : Bytes → Result (List (List (List Cell))) FolderFault
due_of_marker text = catalogue_of (codes "D") (tree_of (in_folder Marker text ∷ []))

pub record Markers : Type 0 where
  pub nothing : catalogue_of (codes "D") (tree_of []) ≡ Err (Missing (codes "D/format"))
  pub no_tables : due_of_marker (codes "1\n") ≡ Err (Missing (codes "D/pg_authid.copy"))
  pub other_version : due_of_marker (codes "2\n") ≡ Err bad_version
  pub no_line_feed : due_of_marker (codes "1") ≡ Err bad_version
  pub longer : due_of_marker (codes "1\n\n") ≡ Err bad_version

-- ---- the empty export

abbrev pub empty_text : SysTable → Bytes
empty_text PgAuthid = codes "10\tpostgres\tt\tt\tt\tt\tt\tt\tt\t-1\t\\N\t\\N\n"
empty_text PgDatabase = codes "5\tpostgres\t10\tUTF8\tt\n"
empty_text PgNamespace = codes "2200\tpublic\t10\t\\N\n"
empty_text _ = []

abbrev pub empty_files : List File
empty_files = in_folder Marker marker ∷ map (λ table. in_folder (Table table) (empty_text table)) all_tables

abbrev pub empty_export : Tree
empty_export = tree_of empty_files

-- its catalogue: one role, one database and one schema
abbrev pub empty_catalogue : Catalogue
empty_catalogue = record no_rows {
  pg_authid = record { oid = 10; rolname = codes "postgres"; rolsuper = true; rolinherit = true; rolcreaterole = true; rolcreatedb = true; rolcanlogin = true; rolreplication = true; rolbypassrls = true; rolconnlimit = negsuc 0; rolpassword = None; rolvaliduntil = None } ∷ [];
  pg_database = record { oid = 5; datname = codes "postgres"; datdba = 10; encoding = codes "UTF8"; datcurrent = true } ∷ [];
  pg_namespace = record { oid = 2200; nspname = codes "public"; nspowner = 10; nspacl = None } ∷ [];
}

-- reading it is due to give this catalogue, of so many bytes
pub record EmptyExportReads : Type 0 where
  pub reads : catalogue_of (codes "D") empty_export ≡ Ok (catalogue_rows empty_catalogue)
  pub bytes : bytes_of (codes "D") empty_export ≡ 76

-- ---- names

pub record Names : Type 0 where
  pub marker : file_name Marker ≡ codes "format"
  pub table : file_name (Table PgNamespace) ≡ codes "pg_namespace.copy"
  pub rows : file_name (Data 16384) ≡ codes "data/16384.copy"

-- ---- texts of tables

pub record Rows : Type 0 where
  pub none : rows_of (record { table = PgDepend; text = [] }) ≡ Ok []
  pub too_few : rows_of (record { table = PgEnum; text = codes "7\t8\n" }) ≡ Err (BadExport (Table PgEnum) 1 (Row (row_faults.Columns 2)))
