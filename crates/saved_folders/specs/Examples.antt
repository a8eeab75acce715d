-- A worked example: the files of a folder with two data files and two of the system tables, in order.
use Rattle.std.specs.Prelude.{◌≡◌, [], ◌∷◌, codes}
use Rattle.cat_rows.specs.declared.table.SysTable.TheVariants.{PgAuthid, PgDepend}
use Rattle.cat_model.specs.Values.{Bytes}
use Rattle.saved_folders.specs.Files.{File}
use Rattle.saved_folders.specs.Folders.{Texts, files_of}

abbrev pub small : Texts
small = record {
  rows = record { oid = 16385; text = codes "1\n" } ∷ record { oid = 16400; text = [] } ∷ [];
  tables = record { table = PgAuthid; text = codes "a\n" } ∷ record { table = PgDepend; text = [] } ∷ [];
}

abbrev pub file : Bytes → Bytes → File
file name text = record { name = name; text = text }

pub record Examples : Type 0 where
  pub order : files_of (codes "D") small ≡ file (codes "D/data/16385.copy") (codes "1\n") ∷ file (codes "D/data/16400.copy") [] ∷ file (codes "D/pg_authid.copy") (codes "a\n") ∷ file (codes "D/pg_depend.copy") [] ∷ file (codes "D/format") (codes "1\n") ∷ []
  pub no_name : files_of [] (record { rows = []; tables = [] }) ≡ file (codes "/format") (codes "1\n") ∷ []
