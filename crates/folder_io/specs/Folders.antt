-- An export folder, and the catalogue that it stands for.
use Rattle.std.specs.Prelude.{◌≡◌, ℕ, ◌+◌, ◌≤◌, List, [], ◌∷◌, ◌++◌, map, length, Option, Some, None, Result, Ok, Err, nat_le, if◌then◌else◌, codes, decimal}
use Rattle.std.specs.List.{sum_by}
use Rattle.std.specs.Str.{bytes_eq}
use Rattle.copy_text.specs.Marks.{newline}
use Rattle.dump_ports.specs.Tree.{Tree, text_at, bytes_at}
use Rattle.cat_rows.specs.declared.table.SysTable.{SysTable}
use Rattle.cat_rows.specs.declared.table.SysTable.TheVariants.{PgAuthid, PgAuthMembers, PgDatabase, PgNamespace, PgType, PgEnum, PgClass, PgAttribute, PgAttrdef, PgConstraint, PgIndex, PgSequence, PgRewrite, PgDescription, PgDepend}
use Rattle.cat_rows.specs.declared.cell.Cell.{Cell}
use Rattle.cat_rows.specs.declared.fault.TableFault.{TableFault}
use Rattle.cat_rows.specs.declared.catalogue.Catalogue.{Catalogue}
use Rattle.cat_rows.specs.Kinds.{table_file}
use Rattle.cat_rows.specs.Reading.{table_of}
use Rattle.cat_rows.specs.Catalogues.{rows_in}
use Rattle.folder_io.specs.declared.file.ExportFile.{ExportFile}
use Rattle.folder_io.specs.declared.file.ExportFile.TheVariants.{Marker, Table, Data}
use Rattle.folder_io.specs.declared.fault.ExportKind.TheVariants.{Version, Row}
use Rattle.folder_io.specs.declared.fault.FolderLimit.{FolderLimit}
use Rattle.folder_io.specs.declared.fault.FolderLimit.TheVariants.{TableFile, DataFile, Folder}
use Rattle.folder_io.specs.declared.fault.FolderFault.{FolderFault}
use Rattle.folder_io.specs.declared.fault.FolderFault.TheVariants.{Missing, BadExport, TooLarge}
use Rattle.folder_io.specs.Answers.{◌>>=◌, each_of}

abbrev pub Bytes : Type 0
Bytes = List ℕ

-- ---- the files

-- the tables in the order of their files
abbrev pub all_tables : List SysTable
all_tables = PgAuthid ∷ PgAuthMembers ∷ PgDatabase ∷ PgNamespace ∷ PgType ∷ PgEnum ∷ PgClass ∷ PgAttribute ∷ PgAttrdef ∷ PgConstraint ∷ PgIndex ∷ PgSequence ∷ PgRewrite ∷ PgDescription ∷ PgDepend ∷ []

-- the name of a file inside the folder
abbrev pub file_name : ExportFile → Bytes
file_name Marker = codes "format"
file_name (Table table) = table_file table
file_name (Data oid) = codes "data/" ++ decimal oid ++ codes ".copy"

-- the path of a file in a folder
abbrev pub path : Bytes → Bytes → Bytes
path folder name = folder ++ codes "/" ++ name

abbrev pub file_of : Bytes → ExportFile → Bytes
file_of folder file = path folder (file_name file)

-- ---- the marker

abbrev pub marker : Bytes
marker = codes "1" ++ newline ∷ []

abbrev pub marked : Bytes → Option Bytes → Result (Unit {0}) FolderFault
marked name None = Err (Missing name)
marked name (Some text) = if bytes_eq text marker then Ok tt else Err (BadExport Marker 1 Version)

-- the marker file is there and has its text
unfoldable pub marker_of : Bytes → Tree → Result (Unit {0}) FolderFault
marker_of folder tree = marked (file_of folder Marker) (text_at tree (file_of folder Marker))

-- ---- files within limits

-- the most bytes of one file, and of all together
abbrev pub most_bytes : FolderLimit → ℕ
most_bytes TableFile = 134217728
most_bytes DataFile = 134217728
most_bytes Folder = 268435456

abbrev pub within : FolderLimit → Bytes → Option Bytes → Result Bytes FolderFault
within limit name None = Err (Missing name)
within limit name (Some text) = if nat_le (length text) (most_bytes limit) then Ok text else Err (TooLarge limit (most_bytes limit + 1))

-- the text of a file, which must be there and within a limit
unfoldable pub file_text : FolderLimit → Bytes → Tree → ExportFile → Result Bytes FolderFault
file_text limit folder tree file = within limit (file_of folder file) (text_at tree (file_of folder file))

-- ---- the texts of the tables

-- the most bytes of one table's file
abbrev pub table_limit : ℕ
table_limit = most_bytes TableFile

-- a table, and the text of its file
pub record TextOfTable : Type 0 where
  pub table : SysTable
  pub text : Bytes

-- the text of a table's file
unfoldable pub text_of : Bytes → Tree → SysTable → Result TextOfTable FolderFault
text_of folder tree table = do
  text ← file_text TableFile folder tree (Table table)
  Ok (record { table = table; text = text })

-- the texts of all tables
unfoldable pub texts_of : Bytes → Tree → Result (List TextOfTable) FolderFault
texts_of folder tree = each_of (text_of folder tree) all_tables

-- ---- how many bytes were read

-- the bytes of these texts together
abbrev pub texts_length : List TextOfTable → ℕ
texts_length texts = sum_by (λ text. length text.text) texts

-- the files of the catalogue
abbrev pub catalogue_files : List ExportFile
catalogue_files = Marker ∷ map Table all_tables

-- the bytes of a file; an absent one has none
abbrev pub file_length : Bytes → Tree → ExportFile → ℕ
file_length folder tree file = length (bytes_at tree (file_of folder file))

-- the bytes of the catalogue's files together
unfoldable pub bytes_of : Bytes → Tree → ℕ
bytes_of folder tree = sum_by (file_length folder tree) catalogue_files

-- ---- their rows

abbrev pub placed : {A : Type 0} → SysTable → Result A TableFault → Result A FolderFault
placed table (Ok x) = Ok x
placed table (Err first) = Err (BadExport (Table table) first.line (Row first.fault))

-- the rows that the text of a table holds
abbrev pub rows_of : TextOfTable → Result (List (List Cell)) FolderFault
rows_of text = placed text.table (table_of text.table text.text)

-- the rows of each table
unfoldable pub tables_of : List TextOfTable → Result (List (List (List Cell))) FolderFault
tables_of texts = each_of rows_of texts

-- ---- the catalogue

-- the rows of a catalogue, table by table; two catalogues with the same rows are the same
abbrev pub catalogue_rows : Catalogue → List (List (List Cell))
catalogue_rows cat = map (λ table. rows_in table cat) all_tables

-- The rows of the catalogue that a folder stands for, or why there is none: first the marker is tried, then all texts
-- are read, then the rows of each.
unfoldable pub catalogue_of : Bytes → Tree → Result (List (List (List Cell))) FolderFault
catalogue_of folder tree = do
  done ← marker_of folder tree
  texts ← texts_of folder tree
  tables_of texts

-- ---- said apart from reading

-- the file of a table holds a text within the limit, and it reads as these rows
pub record HoldsTable (folder : Bytes) (tree : Tree) (table : SysTable) (rows : List (List Cell)) : Type 0 where
  pub text : Bytes
  pub there : text_at tree (file_of folder (Table table)) ≡ Some text
  pub fits : length text ≤ table_limit
  pub reads : table_of table text ≡ Ok rows

-- the folder is an export of this catalogue
pub record StandsFor (folder : Bytes) (tree : Tree) (cat : Catalogue) : Type 0 where
  pub marked : text_at tree (file_of folder Marker) ≡ Some marker
  pub tables : (table : SysTable) → HoldsTable folder tree table (rows_in table cat)
