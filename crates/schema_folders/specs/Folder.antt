-- An export folder whose only objects are schemas: it has the one role and the one database of the empty export, and the
-- role of oid 10 owns each schema with its default grants.
use Rattle.std.specs.Prelude.{◌≡◌, map, option_map, Bool, true, false, ◌||◌, ◌&&◌, not, ◌==◌, ◌≢◌, List, [], ◌∷◌, ◌++◌, Option, Some, None, is_some, Result, Ok, Err, option_and_then, if◌then◌else◌, codes, negsuc}
use Rattle.std.specs.List.{list_any, join_with_byte, IsDistinct}
use Rattle.std.specs.Ordering.{nat_cmp, int_eq, eq_by_cmp}
use Rattle.copy_text.specs.Marks.{tab, newline, null_mark}
use Rattle.std.specs.Str.{bytes_eq}
use Rattle.std.specs.FinMap.{insert}
use Rattle.std.specs.List.Sorted.{IsPermutation}
use Rattle.dump_ports.specs.Tree.{Tree, text_at, TakesPrefix}
use Rattle.cat_rows.specs.declared.table.SysTable.{SysTable}
use Rattle.cat_rows.specs.declared.table.SysTable.TheVariants.{PgAuthid, PgAuthMembers, PgDatabase, PgNamespace, PgType, PgEnum, PgClass, PgAttribute, PgAttrdef, PgConstraint, PgIndex, PgSequence, PgRewrite, PgDescription, PgDepend}
use Rattle.cat_rows.specs.declared.cell.Cell.{Cell}
use Rattle.cat_rows.specs.declared.cell.Cell.TheVariants as cell
use Rattle.cat_rows.specs.declared.catalogue.Catalogue.{Catalogue}
use Rattle.cat_rows.specs.declared.roles.AuthidRow.{AuthidRow}
use Rattle.cat_rows.specs.declared.roles.DatabaseRow.{DatabaseRow}
use Rattle.cat_rows.specs.declared.schemas.NamespaceRow.{NamespaceRow}
use Rattle.cat_rows.specs.Catalogues.{no_rows, rows_in}
use Rattle.cat_rows.specs.Kinds.{table_file}
use Rattle.cat_rows.specs.Reading.{table_of}
use Rattle.cat_rows.specs.Writing.{IsWritten}
use Rattle.cat_model.specs.Values.{Bytes, bytes_cmp}
use Rattle.cat_model.specs.declared.words.What.TheVariants.{Unbuilt}
use Rattle.cat_names.specs.Rights.{is_empty_list}
use Rattle.exports.specs.Exports.{export_of}
use Rattle.saved_folders.specs.Files.{File, saved}
use Rattle.schema_folders.specs.declared.schemas.SchemaRow.{SchemaRow}
use Rattle.tool_words.specs.declared.outcome.Outcome.{Outcome}
use Rattle.tool_words.specs.declared.outcome.Outcome.TheVariants.{OutOfProfile}
use Rattle.tool_words.specs.Answers.{◌>>=◌}
use Rattle.schema_folders.specs.Naming.{boot, has_name, has_oid}
use Rattle.schema_folders.specs.Texts.{path}

-- ---- the rows of pg_namespace

-- a schema of the role of oid 10 with its default grants
abbrev pub plain_row : List Cell → Option SchemaRow
plain_row (cell.Oid oid ∷ cell.Name name ∷ cell.Oid owner ∷ cell.Acl None ∷ []) = if owner == 10 then Some (record { oid = oid; name = name }) else None
plain_row _ = None

-- the row's oid and its name are those of no row before it
abbrev pub is_new : SchemaRow → List SchemaRow → Bool
is_new row before = not (has_oid row.oid before || has_name row.name before)

-- the row that comes next, where it is plain and new
abbrev pub joined : List SchemaRow → Option SchemaRow → Option (List SchemaRow)
joined before None = None
joined before (Some row) = if is_new row before then Some (before ++ row ∷ []) else None

-- the rows behind those before, where each is plain and no oid and no name comes twice
abbrev pub rows_after : List SchemaRow → List (List Cell) → Option (List SchemaRow)
rows_after before [] = Some before
rows_after before (cells ∷ more) = option_and_then (λ rows. rows_after rows more) (joined before (plain_row cells))

abbrev pub has_public : List SchemaRow → Bool
has_public rows = list_any (λ row. bytes_eq row.name (codes "public")) rows

abbrev pub if_public : List SchemaRow → Option (List SchemaRow)
if_public rows = if has_public rows then Some rows else None

-- the schemas of these rows, where they have the plain form
abbrev pub schemas_of : List (List Cell) → Option (List SchemaRow)
schemas_of cells = option_and_then if_public (rows_after [] cells)

-- a row as it is written
abbrev pub cells_of_row : SchemaRow → List Cell
cells_of_row row = cell.Oid row.oid ∷ cell.Name row.name ∷ cell.Oid 10 ∷ cell.Acl None ∷ []

-- ---- the catalogue

-- its one role, and its one database
abbrev pub boot_row : AuthidRow
boot_row = record { oid = 10; rolname = boot; rolsuper = true; rolinherit = true; rolcreaterole = true; rolcreatedb = true; rolcanlogin = true; rolreplication = true; rolbypassrls = true; rolconnlimit = negsuc 0; rolpassword = None; rolvaliduntil = None }

abbrev pub database_row : DatabaseRow
database_row = record { oid = 5; datname = boot; datdba = 10; encoding = codes "UTF8"; datcurrent = true }

abbrev pub namespace_row : SchemaRow → NamespaceRow
namespace_row row = record { oid = row.oid; nspname = row.name; nspowner = 10; nspacl = None }

-- the catalogue whose only objects are these schemas
abbrev pub schemas_alone : List SchemaRow → Catalogue
schemas_alone rows = record no_rows { pg_authid = boot_row ∷ []; pg_database = database_row ∷ []; pg_namespace = map namespace_row rows }

-- ---- the opening

abbrev pub may_all : AuthidRow → Bool
may_all row = row.rolsuper && row.rolinherit && row.rolcreaterole && row.rolcreatedb && row.rolcanlogin && row.rolreplication && row.rolbypassrls

-- no limit on connections, no password and no end
abbrev pub is_unlimited : AuthidRow → Bool
is_unlimited row = int_eq row.rolconnlimit (negsuc 0) && not (is_some row.rolpassword) && not (is_some row.rolvaliduntil)

abbrev pub is_boot_row : AuthidRow → Bool
is_boot_row row = (row.oid == 10) && bytes_eq row.rolname boot && may_all row && is_unlimited row

abbrev pub is_database_row : DatabaseRow → Bool
is_database_row row = (row.oid == 5) && bytes_eq row.datname boot && (row.datdba == 10) && bytes_eq row.encoding (codes "UTF8") && row.datcurrent

abbrev pub is_alone : {R : Type 0} → (R → Bool) → List R → Bool
is_alone test (row ∷ []) = test row
is_alone test _ = false

-- there are no types and no relations
abbrev pub has_no_relations : Catalogue → Bool
has_no_relations cat =
    is_empty_list cat.pg_type && is_empty_list cat.pg_enum && is_empty_list cat.pg_class && is_empty_list cat.pg_attribute
    && is_empty_list cat.pg_attrdef && is_empty_list cat.pg_constraint

-- nor what stands on them, nor memberships and comments
abbrev pub has_no_more : Catalogue → Bool
has_no_more cat =
    is_empty_list cat.pg_index && is_empty_list cat.pg_sequence && is_empty_list cat.pg_rewrite && is_empty_list cat.pg_description
    && is_empty_list cat.pg_depend && is_empty_list cat.pg_auth_members

-- all but the schemas is as in the empty export
abbrev pub is_bare : Catalogue → Bool
is_bare cat = is_alone is_boot_row cat.pg_authid && is_alone is_database_row cat.pg_database && has_no_relations cat && has_no_more cat

abbrev pub or_unbuilt : Bool → Option (List SchemaRow) → Result (List SchemaRow) Outcome
or_unbuilt plain None = Err (OutOfProfile Unbuilt)
or_unbuilt plain (Some rows) = if plain then Ok rows else Err (OutOfProfile Unbuilt)

-- the schemas of an export whose only objects they are
abbrev pub opening_in : Catalogue → Result (List SchemaRow) Outcome
opening_in cat = or_unbuilt (is_bare cat) (schemas_of (rows_in PgNamespace cat))

-- the schemas of a folder: it is read as an export is, whole, and then tried for other objects
unfoldable pub opening_of : Bytes → Tree → Result (List SchemaRow) Outcome
opening_of folder tree = export_of folder tree >>= λ export. opening_in export.cat

-- ---- the written folder

-- the marker's text, and those of the two tables that have one row
abbrev pub marker : Bytes
marker = codes "1" ++ newline ∷ []

-- a line of these fields
abbrev pub line : List Bytes → Bytes
line fields = join_with_byte tab fields ++ newline ∷ []

abbrev pub authid_text : Bytes
authid_text = line (codes "10" ∷ codes "postgres" ∷ codes "t" ∷ codes "t" ∷ codes "t" ∷ codes "t" ∷ codes "t" ∷ codes "t" ∷ codes "t" ∷ codes "-1" ∷ null_mark ∷ null_mark ∷ [])

abbrev pub database_text : Bytes
database_text = line (codes "5" ∷ codes "postgres" ∷ codes "10" ∷ codes "UTF8" ∷ codes "t" ∷ [])

-- the tables in the order of their files
abbrev pub all_tables : List SysTable
all_tables = PgAuthid ∷ PgAuthMembers ∷ PgDatabase ∷ PgNamespace ∷ PgType ∷ PgEnum ∷ PgClass ∷ PgAttribute ∷ PgAttrdef ∷ PgConstraint ∷ PgIndex ∷ PgSequence ∷ PgRewrite ∷ PgDescription ∷ PgDepend ∷ []

abbrev pub marker_file : Bytes → Bytes
marker_file folder = path folder (codes "format")

abbrev pub file_of_table : Bytes → SysTable → Bytes
file_of_table folder table = path folder (table_file table)

-- what is written of a table, where this is the text of pg_namespace
abbrev pub plain_text : Bytes → SysTable → Bytes
plain_text namespaces PgAuthid = authid_text
plain_text namespaces PgDatabase = database_text
plain_text namespaces PgNamespace = namespaces
plain_text namespaces _ = []

abbrev pub table_written : Bytes → Bytes → SysTable → File
table_written folder namespaces table = record { name = file_of_table folder table; text = plain_text namespaces table }

abbrev pub marker_written : Bytes → File
marker_written folder = record { name = marker_file folder; text = marker }

-- the files of the tables in their order
unfoldable pub table_files : Bytes → Bytes → List File
table_files folder namespaces = map (table_written folder namespaces) all_tables

-- the files of a folder in the order in which they are written: the tables, and the marker last
abbrev pub files_written : Bytes → Bytes → List File
files_written folder namespaces = table_files folder namespaces ++ marker_written folder ∷ []

-- the tree once the whole folder is written
abbrev pub folder_saved : Bytes → Bytes → Tree → Tree
folder_saved folder namespaces tree = saved (files_written folder namespaces) tree

-- a text of pg_namespace that holds these schemas by rising oid, and reads as them
pub record IsNamespaces (rows : List SchemaRow) (text : Bytes) : Type 0 where
  pub sorted : List SchemaRow
  pub kept : IsPermutation rows sorted
  pub written : IsWritten PgNamespace (map cells_of_row rows) (map cells_of_row sorted) [] text
  pub oids : IsDistinct (λ a b. eq_by_cmp nat_cmp a.oid b.oid) sorted
  pub names : IsDistinct (λ a b. eq_by_cmp bytes_cmp a.name b.name) sorted
  pub reads : table_of PgNamespace text ≡ Ok (map cells_of_row sorted)

-- The folder holds the marker, and each table's file a text that reads as the rows of a catalogue.
pub record Holds (folder : Bytes) (tree : Tree) (cat : Catalogue) : Type 0 where
  pub marked : text_at tree (marker_file folder) ≡ Some marker
  pub tables : (table : SysTable) → (text : Bytes) × (text_at tree (file_of_table folder table) ≡ Some text) × (table_of table text ≡ Ok (rows_in table cat))

-- the name is that of no file of the folder
pub record IsElsewhere (folder name : Bytes) : Type 0 where
  pub marker : name ≢ marker_file folder
  pub table : (table : SysTable) → name ≢ file_of_table folder table
