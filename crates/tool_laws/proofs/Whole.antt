-- A folder that was written for schemas is an export of their catalogue, where the text of pg_namespace is within the limit.
use Rattle.std.proofs.Common.{◌≡◌, ℕ, ◌+◌, ◌≤◌, List, [], ◌∷◌, map, length, Option, None, unwrap_or, Ok, refl, ap, ◌↔◌, arith}
use Rattle.std.specs.List.{sum_by}
use Rattle.std.specs.FinMap.{empty, get-empty}
use Rattle.std.specs.Ordering.{nat_cmp}
use Rattle.std.proofs.lemmas.List.Elements.{All-from_recursion}
use Rattle.std.proofs.lemmas.List.Sums.{sum_by-cons}
use Rattle.dump_ports.specs.Tree.{Tree}
use Rattle.cat_rows.specs.declared.table.SysTable.{SysTable}
use Rattle.cat_rows.specs.declared.table.SysTable.TheVariants.{PgAuthid, PgAuthMembers, PgDatabase, PgNamespace, PgType, PgEnum, PgClass, PgAttribute, PgAttrdef, PgConstraint, PgIndex, PgSequence, PgRewrite, PgDescription, PgDepend}
use Rattle.cat_rows.specs.Reading.{table_of}
use Rattle.cat_model.specs.Values.{Bytes}
use Rattle.well_formed.specs.Catalogues.{catalogue_fault}
use Rattle.cat_names.specs.DataSets.{TextsByOid}
use Rattle.folder_io.specs.declared.file.ExportFile.{ExportFile}
use Rattle.folder_io.specs.declared.file.ExportFile.TheVariants.{Marker, Table, Data}
use Rattle.folder_io.specs.Folders.{file_length, catalogue_files, bytes_of, table_limit, StandsFor}
use Rattle.oid_groups.specs.Orders.{by_number}
use Rattle.table_rows.specs.Tables.{table_oids}
use Rattle.table_rows.specs.Values.{first_fault, values_fault}
use Rattle.exports.specs.Exports.{Exported, export_of}
use Rattle.exports.specs.Holding.{IsWhole}
use Rattle.schema_folders.specs.declared.schemas.SchemaRow.{SchemaRow}
use Rattle.schema_folders.specs.Folder.{cells_of_row, schemas_alone, plain_text, folder_saved}
use Rattle.schema_folders.proofs.Standing.{text_of_table, text_of_marker, reads_as}

fits : (namespaces : Bytes) → length namespaces ≤ table_limit → (table : SysTable) → length (plain_text namespaces table) ≤ table_limit
fits namespaces l PgAuthid = omega arith
fits namespaces l PgAuthMembers = omega arith
fits namespaces l PgDatabase = omega arith
fits namespaces l PgNamespace = l
fits namespaces l PgType = omega arith
fits namespaces l PgEnum = omega arith
fits namespaces l PgClass = omega arith
fits namespaces l PgAttribute = omega arith
fits namespaces l PgAttrdef = omega arith
fits namespaces l PgConstraint = omega arith
fits namespaces l PgIndex = omega arith
fits namespaces l PgSequence = omega arith
fits namespaces l PgRewrite = omega arith
fits namespaces l PgDescription = omega arith
fits namespaces l PgDepend = omega arith

pub folder_stands : (folder namespaces : Bytes) (rows : List SchemaRow) (tree : Tree) → table_of PgNamespace namespaces ≡ Ok (map cells_of_row rows) → length namespaces ≤ table_limit → StandsFor folder (folder_saved folder namespaces tree) (schemas_alone rows)
folder_stands folder namespaces rows tree reads l = record {
  marked = text_of_marker folder namespaces tree;
  tables = λ table. record {
    text = plain_text namespaces table;
    there = text_of_table folder namespaces tree table;
    fits = fits namespaces l table;
    reads = reads_as namespaces rows reads table;
  };
}

-- ---- how many bytes it has

-- how many bytes each file has that is written
abbrev size : Bytes → Bytes → Tree → ExportFile → ℕ
size folder namespaces tree Marker = 2
size folder namespaces tree (Table table) = length (plain_text namespaces table)
size folder namespaces tree (Data oid) = file_length folder (folder_saved folder namespaces tree) (Data oid)

sized : (folder namespaces : Bytes) (tree : Tree) (file : ExportFile) → file_length folder (folder_saved folder namespaces tree) file ≡ size folder namespaces tree file
sized folder namespaces tree Marker = ap (λ (o : Option Bytes). length (unwrap_or o [])) (text_of_marker folder namespaces tree)
sized folder namespaces tree (Table table) = ap (λ (o : Option Bytes). length (unwrap_or o [])) (text_of_table folder namespaces tree table)
sized folder namespaces tree (Data oid) = refl

same_sum : (f g : ExportFile → ℕ) → ((file : ExportFile) → f file ≡ g file) → (files : List ExportFile) → sum_by f files ≡ sum_by g files
same_sum f g h [] = refl
same_sum f g h (file ∷ files) = rw (sum_by-cons f file files, sum_by-cons g file files, h file, same_sum f g h files) refl

within : (folder namespaces : Bytes) (tree : Tree) → length namespaces ≤ table_limit → bytes_of folder (folder_saved folder namespaces tree) + 0 ≤ 268435456
unfolding bytes_of
within folder namespaces tree l =
    let all : sum_by (file_length folder (folder_saved folder namespaces tree)) catalogue_files ≡ sum_by (size folder namespaces tree) catalogue_files =
    same_sum (file_length folder (folder_saved folder namespaces tree)) (size folder namespaces tree) (sized folder namespaces tree) catalogue_files in
    rw all (small (length namespaces) l)
  where
    small : (n : ℕ) → n ≤ table_limit → 0 + 2 + 35 + 0 + 21 + n + 0 + 0 + 0 + 0 + 0 + 0 + 0 + 0 + 0 + 0 + 0 + 0 ≤ 268435456
    small n l = omega arith

-- ---- the export

no_oids : (rows : List SchemaRow) → table_oids (schemas_alone rows) ≡ []
unfolding table_oids by_number
no_oids rows = refl

no_texts : TextsByOid
no_texts = empty

-- an export is whole exactly where reading is due to give it
abbrev pub WholeLaw : Type 0
WholeLaw = (folder : Bytes) (tree : Tree) (export : Exported) → StandsFor folder tree export.cat → (export_of folder tree ≡ Ok export) ↔ IsWhole folder tree export

pub is_export : WholeLaw → (folder namespaces : Bytes) (rows : List SchemaRow) (tree : Tree) → table_of PgNamespace namespaces ≡ Ok (map cells_of_row rows) → length namespaces ≤ table_limit → catalogue_fault (schemas_alone rows) ≡ None
    → export_of folder (folder_saved folder namespaces tree) ≡ Ok (record { cat = schemas_alone rows; rows = empty })
unfolding values_fault first_fault
is_export whole folder namespaces rows tree reads l formed =
    let export : Exported = record { cat = schemas_alone rows; rows = empty } in
    (whole folder (folder_saved folder namespaces tree) export (folder_stands folder namespaces rows tree reads l)).1 (record {
      formed = formed;
      texts = record {
        there = rw (no_oids rows) (All-from_recursion _ [] tt);
        limited = rw (no_oids rows) (All-from_recursion _ [] tt);
        fits = rw (no_oids rows) (within folder namespaces tree l);
        texts = λ oid. rw (no_oids rows) (get-empty nat_cmp oid);
      };
      rows = rw (no_oids rows) refl;
    })
