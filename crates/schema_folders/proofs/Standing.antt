-- A folder that was written holds the schemas that its text of pg_namespace was made of.
use Rattle.std.proofs.Common.{◌≡◌, Bool, true, false, cond, not, ◌||◌, List, [], ◌∷◌, ◌++◌, map, Some, None, Ok, option_and_then, refl, sym, ap, subst, ◌∙◌, codes}
use Rattle.std.specs.Prelude.{unwrap_or}
use Rattle.std.specs.Ordering.{nat_cmp, eq_by_cmp, is_eq, ordering_then}
use Rattle.std.specs.Cmp.{nat_cmp_total, eq_by_cmp_equiv}
use Rattle.std.specs.Cmp.Lexicographic.{slice_cmp, nat_list_cmp_total}
use Rattle.std.specs.List.{list_any, IsDistinct, AllByRecursion}
use Rattle.std.specs.List.Sorted.{IsPermutation}
use Rattle.std.specs.FinMap.{insert, get-insert}
use Rattle.std.proofs.lemmas.Cmp.{tied_itself}
use Rattle.std.proofs.lemmas.Map.Keys.{IsDistinct-IsPermutation, IsDistinct-head, IsDistinct-tail}
use Rattle.std.proofs.lemmas.List.Elements.{recursion_from_All, All-from_recursion}
use Rattle.std.proofs.lemmas.List.Sorted.{IsPermutation-map, All-permutation}
use Rattle.dump_ports.specs.Tree.{Tree, text_at}
use Rattle.cat_rows.specs.declared.table.SysTable.{SysTable}
use Rattle.cat_rows.specs.declared.table.SysTable.TheVariants.{PgAuthid, PgAuthMembers, PgDatabase, PgNamespace, PgType, PgEnum, PgClass, PgAttribute, PgAttrdef, PgConstraint, PgIndex, PgSequence, PgRewrite, PgDescription, PgDepend}
use Rattle.cat_rows.specs.declared.cell.Cell.{Cell}
use Rattle.cat_rows.specs.Kinds.{table_file}
use Rattle.copy_text.specs.Pieces.{pieces_after, ends_escaping}
use Rattle.copy_text.specs.Escapes.{decode_behind, escape}
use Rattle.copy_text.specs.Reading.{row_of, fields_of, field_of}
use Rattle.copy_text.specs.Lines.{lines}
use Rattle.cat_rows.specs.Catalogues.{rows_in}
use Rattle.cat_rows.specs.Cells.{cell_of}
use Rattle.cat_rows.specs.Numbers.{oid_of, int_of}
use Rattle.cat_rows.specs.RowCells.{namespace_cells}
use Rattle.cat_rows.specs.Reading.{cell_at, cells_at, row_start, cells_of, table_from, table_of}
use Rattle.std.specs.Str.{is_utf8, chars}
use Rattle.std.specs.Fmt.{digits}
use lib.Utf8.{encode}
use Rattle.cat_rows.specs.Writing.{IsWritten}
use Rattle.cat_model.specs.Values.{Bytes, bytes_cmp}
use Rattle.schema_folders.specs.declared.schemas.SchemaRow.{SchemaRow}
use Rattle.schema_folders.specs.Naming.{has_name, has_oid}
use Rattle.schema_folders.specs.Texts.{path}
use Rattle.schema_folders.specs.Folder.{plain_row, joined, rows_after, cells_of_row, namespace_row, schemas_alone, marker, marker_file, all_tables, file_of_table, plain_text, table_written, table_files, marker_written, folder_saved, IsNamespaces, Holds}
use Rattle.saved_folders.specs.Files.{File, saved}
use Rattle.schema_folders.proofs.Saved.{saved-append}

-- ---- the rows that a table's text was written of, in its order

abbrev no_schema : SchemaRow
no_schema = record { oid = 0; name = [] }

abbrev row_in : List Cell → SchemaRow
row_in cells = unwrap_or (plain_row cells) no_schema

back : (rows : List SchemaRow) → map row_in (map cells_of_row rows) ≡ rows
back [] = refl
back (row ∷ rows) = ap (λ more. row ∷ more) (back rows)

-- the cells are those of a row
abbrev IsOfRow : List Cell → Type 0
IsOfRow cells = cells_of_row (row_in cells) ≡ cells

all_of_rows : (rows : List SchemaRow) → AllByRecursion IsOfRow (map cells_of_row rows)
all_of_rows [] = tt
all_of_rows (row ∷ rows) = (refl, all_of_rows rows)

forth : (cells : List (List Cell)) → AllByRecursion IsOfRow cells → map cells_of_row (map row_in cells) ≡ cells
forth [] h = refl
forth (c ∷ cells) h = ap (λ d. d ∷ map cells_of_row (map row_in cells)) h.0 ∙ ap (λ more. c ∷ more) (forth cells h.1)

abbrev pub sorted_rows : List (List Cell) → List SchemaRow
sorted_rows written = map row_in written

pub sorted_kept : (rows : List SchemaRow) (written : List (List Cell)) → IsPermutation (map cells_of_row rows) written → IsPermutation rows (sorted_rows written)
sorted_kept rows written p = subst (λ l. IsPermutation l (map row_in written)) (back rows) (IsPermutation-map row_in (map cells_of_row rows) written p)

pub sorted_written : (rows : List SchemaRow) (written : List (List Cell)) → IsPermutation (map cells_of_row rows) written → map cells_of_row (sorted_rows written) ≡ written
sorted_written rows written p =
    forth written (recursion_from_All IsOfRow written (All-permutation IsOfRow (map cells_of_row rows) written p (All-from_recursion IsOfRow (map cells_of_row rows) (all_of_rows rows))))

-- ---- they are read as themselves

module _ {A : Type 0} (e : A → A → Bool) (flips : (x y : A) → e x y ≡ e y x) where
  -- none of those before a row ties with it
  pub apart_from : (before : List A) (row : A) (more : List A) → IsDistinct e (before ++ row ∷ more) → list_any (λ b. e b row) before ≡ false
  apart_from [] row more d = refl
  apart_from (b ∷ before) row more d = ap (λ t. t || list_any (λ b. e b row) before) (in_middle before row more (IsDistinct-head e b (before ++ row ∷ more) d)) ∙ apart_from before row more (IsDistinct-tail e b (before ++ row ∷ more) d)
    where
      in_middle : (before : List A) (row : A) (more : List A) → AllByRecursion (λ y. e b y ≡ false) (before ++ row ∷ more) → e b row ≡ false
      in_middle [] row more h = h.0
      in_middle (c ∷ before) row more h = in_middle before row more h.1

  pub behind : (before : List A) (row : A) (more : List A) → IsDistinct e (before ++ row ∷ more) → IsDistinct e ((before ++ row ∷ []) ++ more)
  behind before row more d = subst (IsDistinct e) (moved before row more) d
    where
      moved : (before : List A) (row : A) (more : List A) → before ++ row ∷ more ≡ (before ++ row ∷ []) ++ more
      moved [] row more = refl
      moved (b ∷ before) row more = ap (λ l. b ∷ l) (moved before row more)

abbrev pub same_name : SchemaRow → SchemaRow → Bool
same_name a b = eq_by_cmp bytes_cmp a.name b.name

abbrev pub same_oid : SchemaRow → SchemaRow → Bool
same_oid a b = eq_by_cmp nat_cmp a.oid b.oid

pub name_flips : (a b : SchemaRow) → same_name a b ≡ same_name b a
name_flips a b = (eq_by_cmp_equiv nat_list_cmp_total).symm a.name b.name

pub oid_flips : (a b : SchemaRow) → same_oid a b ≡ same_oid b a
oid_flips a b = (eq_by_cmp_equiv nat_cmp_total).symm a.oid b.oid

next_row : (before : List SchemaRow) (row : SchemaRow) → has_oid row.oid before ≡ false → has_name row.name before ≡ false → joined before (plain_row (cells_of_row row)) ≡ Some (before ++ row ∷ [])
next_row before row o n = ap (λ b. cond (not (b || has_name row.name before)) (Some (before ++ row ∷ [])) None) o ∙ ap (λ b. cond (not b) (Some (before ++ row ∷ [])) None) n

-- rows that were written are found again
pub all_rows : (before rows : List SchemaRow) → IsDistinct same_name (before ++ rows) → IsDistinct same_oid (before ++ rows) → rows_after before (map cells_of_row rows) ≡ Some (before ++ rows)
all_rows before [] n o = ap Some (sym (nothing before))
  where
    nothing : (l : List SchemaRow) → l ++ [] ≡ l
    nothing [] = refl
    nothing (x ∷ l) = ap (λ m. x ∷ m) (nothing l)
all_rows before (row ∷ rows) n o =
    ap (λ found. option_and_then (λ all. rows_after all (map cells_of_row rows)) found) (next_row before row (apart_from same_oid oid_flips before row rows o) (apart_from same_name name_flips before row rows n))
    ∙ all_rows (before ++ row ∷ []) rows (behind same_name name_flips before row rows n) (behind same_oid oid_flips before row rows o)
    ∙ ap Some (joined_up before row rows)
  where
    joined_up : (before : List SchemaRow) (row : SchemaRow) (rows : List SchemaRow) → (before ++ row ∷ []) ++ rows ≡ before ++ row ∷ rows
    joined_up [] row rows = refl
    joined_up (b ∷ before) row rows = ap (λ l. b ∷ l) (joined_up before row rows)

pub is_namespaces : (rows : List SchemaRow) (text : Bytes) → IsDistinct same_name rows → IsDistinct same_oid rows → (written : List (List Cell)) × IsWritten PgNamespace (map cells_of_row rows) written [] text → IsNamespaces rows text
is_namespaces rows text n o w =
    let p = w.1.order.permutation in
    let kept = sorted_kept rows w.0 p in
    let again = sorted_written rows w.0 p in
    record {
      sorted = sorted_rows w.0;
      kept = kept;
      written = subst (λ cells. IsWritten PgNamespace (map cells_of_row rows) cells [] text) (sym again) w.1;
      oids = IsDistinct-IsPermutation same_oid oid_flips rows (sorted_rows w.0) kept o;
      names = IsDistinct-IsPermutation same_name name_flips rows (sorted_rows w.0) kept n;
      reads = ap (λ t. table_of PgNamespace t) w.1.text ∙ w.1.reads ∙ ap Ok (sym again);
    }

-- ---- what the files of a written folder hold

-- two paths in one folder tie where their names do
one_folder : (folder a b : Bytes) → eq_by_cmp bytes_cmp (folder ++ a) (folder ++ b) ≡ eq_by_cmp bytes_cmp a b
one_folder [] a b = refl
one_folder (c ∷ folder) a b = ap (λ o. is_eq (ordering_then o (slice_cmp nat_cmp (folder ++ a) (folder ++ b)))) (tied_itself nat_cmp_total c) ∙ one_folder folder a b

-- a file of another name isn't touched
pub others_kept : (files : List File) (tree : Tree) (name : Bytes) → list_any (λ file. eq_by_cmp bytes_cmp name file.name) files ≡ false → text_at (saved files tree) name ≡ text_at tree name
others_kept [] tree name h = refl
others_kept (file ∷ files) tree name h =
    others_kept files (insert tree file.name file.text) name (second (eq_by_cmp bytes_cmp name file.name) (list_any (λ f. eq_by_cmp bytes_cmp name f.name) files) h)
    ∙ get-insert nat_list_cmp_total tree file.name file.text name
    ∙ ap (λ b. cond b (Some file.text) (text_at tree name)) (first (eq_by_cmp bytes_cmp name file.name) (list_any (λ f. eq_by_cmp bytes_cmp name f.name) files) h)
  where
    first : (a b : Bool) → (a || b) ≡ false → a ≡ false
    first true b h = h
    first false b h = refl

    second : (a b : Bool) → (a || b) ≡ false → b ≡ false
    second true true h = h
    second true false h = refl
    second false b h = h

-- a file holds its text where none behind it has its name
holds_text : (before : List File) (file : File) (behind : List File) (tree : Tree) → list_any (λ f. eq_by_cmp bytes_cmp file.name f.name) behind ≡ false → text_at (saved (before ++ file ∷ behind) tree) file.name ≡ Some file.text
holds_text before file behind tree h =
    ap (λ t. text_at t file.name) (saved-append before (file ∷ behind) tree)
    ∙ others_kept behind (insert (saved before tree) file.name file.text) file.name h
    ∙ get-insert nat_list_cmp_total (saved before tree) file.name file.text file.name
    ∙ ap (λ b. cond b (Some file.text) (text_at (saved before tree) file.name)) ((eq_by_cmp_equiv nat_list_cmp_total).refl file.name)

-- whether a file of these tables, or the marker, has this name
abbrev has_file : Bytes → List SysTable → Bool
has_file name [] = eq_by_cmp bytes_cmp name (codes "format") || false
has_file name (table ∷ tables) = eq_by_cmp bytes_cmp name (table_file table) || has_file name tables

in_folder : (folder namespaces name : Bytes) (tables : List SysTable) → list_any (λ file. eq_by_cmp bytes_cmp (path folder name) file.name) (map (table_written folder namespaces) tables ++ marker_written folder ∷ []) ≡ has_file name tables
in_folder folder namespaces name [] = ap (λ b. b || false) (one_folder (folder ++ codes "/") name (codes "format"))
in_folder folder namespaces name (table ∷ tables) =
    ap (λ b. b || list_any (λ file. eq_by_cmp bytes_cmp (path folder name) file.name) (map (table_written folder namespaces) tables ++ marker_written folder ∷ [])) (one_folder (folder ++ codes "/") name (table_file table))
    ∙ ap (λ b. eq_by_cmp bytes_cmp name (table_file table) || b) (in_folder folder namespaces name tables)

of_table : (folder namespaces : Bytes) (tree : Tree) (before : List SysTable) (table : SysTable) (behind : List SysTable) → all_tables ≡ before ++ table ∷ behind → has_file (table_file table) behind ≡ false → text_at (folder_saved folder namespaces tree) (file_of_table folder table) ≡ Some (plain_text namespaces table)
unfolding table_files
of_table folder namespaces tree before table behind split apart =
    ap (λ tables. text_at (saved (map (table_written folder namespaces) tables ++ marker_written folder ∷ []) tree) (file_of_table folder table)) split
    ∙ ap (λ files. text_at (saved files tree) (file_of_table folder table)) (parted before table behind)
    ∙ holds_text (map (table_written folder namespaces) before) (table_written folder namespaces table) (map (table_written folder namespaces) behind ++ marker_written folder ∷ []) tree (in_folder folder namespaces (table_file table) behind ∙ apart)
  where
    parted : (before : List SysTable) (table : SysTable) (behind : List SysTable) → map (table_written folder namespaces) (before ++ table ∷ behind) ++ marker_written folder ∷ [] ≡ map (table_written folder namespaces) before ++ table_written folder namespaces table ∷ (map (table_written folder namespaces) behind ++ marker_written folder ∷ [])
    parted [] table behind = refl
    parted (b ∷ before) table behind = ap (λ files. table_written folder namespaces b ∷ files) (parted before table behind)

pub text_of_table : (folder namespaces : Bytes) (tree : Tree) (table : SysTable) → text_at (folder_saved folder namespaces tree) (file_of_table folder table) ≡ Some (plain_text namespaces table)
text_of_table folder namespaces tree PgAuthid = of_table folder namespaces tree [] PgAuthid (PgAuthMembers ∷ PgDatabase ∷ PgNamespace ∷ PgType ∷ PgEnum ∷ PgClass ∷ PgAttribute ∷ PgAttrdef ∷ PgConstraint ∷ PgIndex ∷ PgSequence ∷ PgRewrite ∷ PgDescription ∷ PgDepend ∷ []) refl refl
text_of_table folder namespaces tree PgAuthMembers = of_table folder namespaces tree (PgAuthid ∷ []) PgAuthMembers (PgDatabase ∷ PgNamespace ∷ PgType ∷ PgEnum ∷ PgClass ∷ PgAttribute ∷ PgAttrdef ∷ PgConstraint ∷ PgIndex ∷ PgSequence ∷ PgRewrite ∷ PgDescription ∷ PgDepend ∷ []) refl refl
text_of_table folder namespaces tree PgDatabase = of_table folder namespaces tree (PgAuthid ∷ PgAuthMembers ∷ []) PgDatabase (PgNamespace ∷ PgType ∷ PgEnum ∷ PgClass ∷ PgAttribute ∷ PgAttrdef ∷ PgConstraint ∷ PgIndex ∷ PgSequence ∷ PgRewrite ∷ PgDescription ∷ PgDepend ∷ []) refl refl
text_of_table folder namespaces tree PgNamespace = of_table folder namespaces tree (PgAuthid ∷ PgAuthMembers ∷ PgDatabase ∷ []) PgNamespace (PgType ∷ PgEnum ∷ PgClass ∷ PgAttribute ∷ PgAttrdef ∷ PgConstraint ∷ PgIndex ∷ PgSequence ∷ PgRewrite ∷ PgDescription ∷ PgDepend ∷ []) refl refl
text_of_table folder namespaces tree PgType = of_table folder namespaces tree (PgAuthid ∷ PgAuthMembers ∷ PgDatabase ∷ PgNamespace ∷ []) PgType (PgEnum ∷ PgClass ∷ PgAttribute ∷ PgAttrdef ∷ PgConstraint ∷ PgIndex ∷ PgSequence ∷ PgRewrite ∷ PgDescription ∷ PgDepend ∷ []) refl refl
text_of_table folder namespaces tree PgEnum = of_table folder namespaces tree (PgAuthid ∷ PgAuthMembers ∷ PgDatabase ∷ PgNamespace ∷ PgType ∷ []) PgEnum (PgClass ∷ PgAttribute ∷ PgAttrdef ∷ PgConstraint ∷ PgIndex ∷ PgSequence ∷ PgRewrite ∷ PgDescription ∷ PgDepend ∷ []) refl refl
text_of_table folder namespaces tree PgClass = of_table folder namespaces tree (PgAuthid ∷ PgAuthMembers ∷ PgDatabase ∷ PgNamespace ∷ PgType ∷ PgEnum ∷ []) PgClass (PgAttribute ∷ PgAttrdef ∷ PgConstraint ∷ PgIndex ∷ PgSequence ∷ PgRewrite ∷ PgDescription ∷ PgDepend ∷ []) refl refl
text_of_table folder namespaces tree PgAttribute = of_table folder namespaces tree (PgAuthid ∷ PgAuthMembers ∷ PgDatabase ∷ PgNamespace ∷ PgType ∷ PgEnum ∷ PgClass ∷ []) PgAttribute (PgAttrdef ∷ PgConstraint ∷ PgIndex ∷ PgSequence ∷ PgRewrite ∷ PgDescription ∷ PgDepend ∷ []) refl refl
text_of_table folder namespaces tree PgAttrdef = of_table folder namespaces tree (PgAuthid ∷ PgAuthMembers ∷ PgDatabase ∷ PgNamespace ∷ PgType ∷ PgEnum ∷ PgClass ∷ PgAttribute ∷ []) PgAttrdef (PgConstraint ∷ PgIndex ∷ PgSequence ∷ PgRewrite ∷ PgDescription ∷ PgDepend ∷ []) refl refl
text_of_table folder namespaces tree PgConstraint = of_table folder namespaces tree (PgAuthid ∷ PgAuthMembers ∷ PgDatabase ∷ PgNamespace ∷ PgType ∷ PgEnum ∷ PgClass ∷ PgAttribute ∷ PgAttrdef ∷ []) PgConstraint (PgIndex ∷ PgSequence ∷ PgRewrite ∷ PgDescription ∷ PgDepend ∷ []) refl refl
text_of_table folder namespaces tree PgIndex = of_table folder namespaces tree (PgAuthid ∷ PgAuthMembers ∷ PgDatabase ∷ PgNamespace ∷ PgType ∷ PgEnum ∷ PgClass ∷ PgAttribute ∷ PgAttrdef ∷ PgConstraint ∷ []) PgIndex (PgSequence ∷ PgRewrite ∷ PgDescription ∷ PgDepend ∷ []) refl refl
text_of_table folder namespaces tree PgSequence = of_table folder namespaces tree (PgAuthid ∷ PgAuthMembers ∷ PgDatabase ∷ PgNamespace ∷ PgType ∷ PgEnum ∷ PgClass ∷ PgAttribute ∷ PgAttrdef ∷ PgConstraint ∷ PgIndex ∷ []) PgSequence (PgRewrite ∷ PgDescription ∷ PgDepend ∷ []) refl refl
text_of_table folder namespaces tree PgRewrite = of_table folder namespaces tree (PgAuthid ∷ PgAuthMembers ∷ PgDatabase ∷ PgNamespace ∷ PgType ∷ PgEnum ∷ PgClass ∷ PgAttribute ∷ PgAttrdef ∷ PgConstraint ∷ PgIndex ∷ PgSequence ∷ []) PgRewrite (PgDescription ∷ PgDepend ∷ []) refl refl
text_of_table folder namespaces tree PgDescription = of_table folder namespaces tree (PgAuthid ∷ PgAuthMembers ∷ PgDatabase ∷ PgNamespace ∷ PgType ∷ PgEnum ∷ PgClass ∷ PgAttribute ∷ PgAttrdef ∷ PgConstraint ∷ PgIndex ∷ PgSequence ∷ PgRewrite ∷ []) PgDescription (PgDepend ∷ []) refl refl
text_of_table folder namespaces tree PgDepend = of_table folder namespaces tree (PgAuthid ∷ PgAuthMembers ∷ PgDatabase ∷ PgNamespace ∷ PgType ∷ PgEnum ∷ PgClass ∷ PgAttribute ∷ PgAttrdef ∷ PgConstraint ∷ PgIndex ∷ PgSequence ∷ PgRewrite ∷ PgDescription ∷ []) PgDepend [] refl refl

pub text_of_marker : (folder namespaces : Bytes) (tree : Tree) → text_at (folder_saved folder namespaces tree) (marker_file folder) ≡ Some marker
text_of_marker folder namespaces tree = holds_text (table_files folder namespaces) (marker_written folder) [] tree refl

-- ---- what they read as

pub reads_as : (namespaces : Bytes) (rows : List SchemaRow) → table_of PgNamespace namespaces ≡ Ok (map cells_of_row rows) → (table : SysTable) → table_of table (plain_text namespaces table) ≡ Ok (rows_in table (schemas_alone rows))
unfolding digits is_utf8 chars encode pieces_after ends_escaping decode_behind row_of fields_of field_of lines escape oid_of int_of cell_of cell_at cells_at row_start cells_of table_from table_of
reads_as namespaces rows reads PgAuthid = refl
reads_as namespaces rows reads PgAuthMembers = refl
reads_as namespaces rows reads PgDatabase = refl
reads_as namespaces rows reads PgNamespace = reads ∙ ap Ok (same_cells rows)
  where
    same_cells : (rows : List SchemaRow) → map cells_of_row rows ≡ map namespace_cells (map namespace_row rows)
    same_cells [] = refl
    same_cells (row ∷ rows) = ap (λ more. cells_of_row row ∷ more) (same_cells rows)
reads_as namespaces rows reads PgType = refl
reads_as namespaces rows reads PgEnum = refl
reads_as namespaces rows reads PgClass = refl
reads_as namespaces rows reads PgAttribute = refl
reads_as namespaces rows reads PgAttrdef = refl
reads_as namespaces rows reads PgConstraint = refl
reads_as namespaces rows reads PgIndex = refl
reads_as namespaces rows reads PgSequence = refl
reads_as namespaces rows reads PgRewrite = refl
reads_as namespaces rows reads PgDescription = refl
reads_as namespaces rows reads PgDepend = refl

-- the folder holds the catalogue of the schemas that the text of pg_namespace does
pub folder_holds : (folder namespaces : Bytes) (rows : List SchemaRow) (tree : Tree) → table_of PgNamespace namespaces ≡ Ok (map cells_of_row rows) → Holds folder (folder_saved folder namespaces tree) (schemas_alone rows)
folder_holds folder namespaces rows tree reads = record {
  marked = text_of_marker folder namespaces tree;
  tables = λ table. (plain_text namespaces table, text_of_table folder namespaces tree table, reads_as namespaces rows reads table);
}
