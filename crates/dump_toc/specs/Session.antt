-- The entries before those of objects: three set up the session, and one makes the database.
use Rattle.std.specs.Prelude.{ℕ, false, List, [], ◌∷◌, ◌++◌, Option, Some, None, option_map, codes}
use Rattle.std.specs.List.{find}
use Rattle.std.specs.Option.{option_to_list}
use Rattle.cat_rows.specs.declared.catalogue.Catalogue.{Catalogue}
use Rattle.cat_rows.specs.declared.roles.DatabaseRow.{DatabaseRow}
use Rattle.cat_model.specs.declared.constraint.Encoding.TheVariants.{Utf8}
use Rattle.cat_model.specs.declared.stmt.Stmt.TheVariants as stmt
use Rattle.cat_model.specs.Values.{Bytes}
use Rattle.cat_names.specs.Lookups.{role_name}
use Rattle.toc_entry.specs.declared.entry.Entry.{Entry}
use Rattle.toc_entry.specs.declared.entry.Extra.TheVariants.{Place}
use Rattle.dump_stmts.specs.Paths.{written}

-- an entry of no system table and no owner, before the data
abbrev pub pre_data : ℕ → Bytes → Bytes → Bytes → Entry
pre_data id desc tag defn = record {
  dump_id = id;
  has_rows = false;
  tableoid = 0;
  oid = 0;
  tag = tag;
  desc = desc;
  section = 2;
  defn = Some defn;
  drop_stmt = Some [];
  copy_stmt = None;
  namespace = None;
  tablespace = Some [];
  tableam = None;
  owner = None;
  depends = [];
  extra = Place 3 0;
}

-- a setting of the session is called as its kind is
abbrev pub setting : ℕ → Bytes → Bytes → Entry
setting id desc defn = pre_data id desc desc defn

abbrev pub encoding : Entry
encoding = setting 1 (codes "ENCODING") (codes "SET client_encoding = 'UTF8';\n")

abbrev pub std_strings : Entry
std_strings = setting 2 (codes "STDSTRINGS") (codes "SET standard_conforming_strings = 'on';\n")

abbrev pub search_path : Entry
search_path = setting 3 (codes "SEARCHPATH") (codes "SELECT pg_catalog.set_config('search_path', '', false);\n")

abbrev pub database_entry : Catalogue → DatabaseRow → Entry
database_entry cat row = record (pre_data 4 (codes "DATABASE") row.datname (written (Some (stmt.CreateDatabase row.datname (Some Utf8))))) {
  tableoid = 1262;
  oid = row.oid;
  owner = role_name cat.pg_authid row.datdba;
}

-- the current database, which a well-formed catalogue has
abbrev pub current_database : Catalogue → Option DatabaseRow
current_database cat = find (λ d. d.datcurrent) cat.pg_database

unfoldable pub session_entries : Catalogue → List Entry
session_entries cat = (encoding ∷ std_strings ∷ search_path ∷ []) ++ option_to_list (option_map (database_entry cat) (current_database cat))
