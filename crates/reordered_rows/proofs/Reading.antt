-- What is written of tables that are well-formed once their rows stand in order is read, or is past a limit.
use Rattle.std.proofs.Common.{◌≡◌, ℕ, ◌+◌, Bool, true, false, cond, List, [], ◌∷◌, map, length, Option, Some, None, option_map, Result, Ok, Err, refl, sym, ap, subst, ◌∙◌, arith}
use Rattle.std.proofs.lemmas.List.Elements.{recursion_from_All, All-from_recursion}
use Rattle.std.proofs.lemmas.List.Sorted.{All-permutation, IsPermutation-map, sum_by-IsPermutation}
use Rattle.std.proofs.lemmas.List.Sums.{sum_by-cons}
use Rattle.std.specs.Prelude.{filter_map}
use Rattle.std.specs.List.{AllByRecursion, filter, sum_by}
use Rattle.std.specs.List.Sorted.{IsPermutation}
use Rattle.std.specs.Option.{option_or}
use Rattle.dump_ports.specs.Tree.{Tree}
use Rattle.data_rows.specs.Rows.{rows_of}
use Rattle.cat_model.specs.Values.{Bytes}
use Rattle.cat_rows.specs.declared.catalogue.Catalogue.{Catalogue}
use Rattle.cat_rows.specs.declared.cell.Cell.{Cell}
use Rattle.cat_rows.specs.declared.relations.AttributeRow.{AttributeRow}
use Rattle.cat_rows.specs.declared.table.SysTable.{SysTable}
use Rattle.cat_rows.specs.declared.table.SysTable.TheVariants.{PgAuthid, PgAuthMembers, PgDatabase, PgNamespace, PgType, PgEnum, PgClass, PgAttribute, PgAttrdef, PgConstraint, PgIndex, PgSequence, PgRewrite, PgDescription, PgDepend}
use Rattle.cat_rows.specs.Catalogues.{rows_in}
use Rattle.cat_rows.specs.Order.{IsInOrder}
use Rattle.cat_rows.specs.RowCells.{authid_cells, auth_members_cells, database_cells, namespace_cells, type_cells, enum_cells, class_cells, attribute_cells, attrdef_cells, constraint_cells, index_cells, sequence_cells, rewrite_cells, description_cells, depend_cells}
use Rattle.cat_names.specs.DataSets.{TextsByOid}
use Rattle.cat_names.specs.declared.fault.CatFault.{CatFault}
use Rattle.cat_names.specs.Lookups.{same_oid, has_oid, count_of}
use Rattle.exports.specs.Cells.{authid_of, member_of, database_of, schema_of, type_of, label_of, relation_of, column_of, default_of, constraint_of, index_of, sequence_of, body_of, comment_of, dependency_of, catalogue_with}
use Rattle.exports.specs.Exports.{Exported, told, well_formed, have_rows, export_with, export_of}
use Rattle.folder_io.specs.declared.fault.FolderFault.{FolderFault}
use Rattle.folder_io.specs.declared.fault.FolderFault.TheVariants.{Failed, Missing, BadExport, TooLarge, Memory}
use Rattle.folder_io.specs.Folders.{bytes_of, catalogue_of}
use Rattle.folder_rows.specs.Reading.{data_of}
use Rattle.saved_folders.specs.Exports.{rows_kept, IsReordered}
use Rattle.saved_folders.specs.Folders.{Texts, AreTexts, folder_saved}
use Rattle.saved_folders.proofs.Holding.{OneOrder, CanBeWritten, TableFound, found_text, HoldsTexts, saved_holds, rows_written, tables_read, oids_stay, each_among}
use Rattle.saved_folders.proofs.Kept.{AreHeld, text_kept, rows_are}
use Rattle.saved_folders.proofs.Limits.{Only, only_catalogue, only_data}
use Rattle.table_rows.specs.declared.fault.ValuesFault.{ValuesFault}
use Rattle.table_rows.specs.Tables.{table_oids, column_oids, column_count}
use Rattle.table_rows.specs.Values.{text_of, fault_in, first_fault, values_fault}
use Rattle.tool_words.specs.Answers.{◌>>=◌}
use Rattle.well_formed.specs.Catalogues.{catalogue_fault}
use Rattle.reordered_rows.specs.Reading.{IsReadOrTooLarge}

-- ---- the rows that are read

-- the cells are those of a row
abbrev OfRow : {R : Type 0} → (R → List Cell) → (List Cell → Option R) → List Cell → Type 0
OfRow cells of c = option_map cells (of c) ≡ Some c

each_of_row : {R : Type 0} (cells : R → List Cell) (of : List Cell → Option R) → ((row : R) → of (cells row) ≡ Some row) → (rows : List R) → AllByRecursion (OfRow cells of) (map cells rows)
each_of_row cells of same [] = tt
each_of_row cells of same (row ∷ rows) = (ap (option_map cells) (same row), each_of_row cells of same rows)

forth : {R : Type 0} (cells : R → List Cell) (of : List Cell → Option R) (written : List (List Cell)) → AllByRecursion (OfRow cells of) written → map cells (filter_map of written) ≡ written
forth cells of [] all = refl
forth {R} cells of (c ∷ cs) all = by (of c) refl all.0 (forth cells of cs all.1)
  where
    by : (o : Option R) → of c ≡ o → option_map cells o ≡ Some c → map cells (filter_map of cs) ≡ cs → map cells (filter_map of (c ∷ cs)) ≡ c ∷ cs
    by None is e rest = absurd cc
    by (Some row) is e rest = let head : cells row ≡ c = cc in rw is (ap (λ (d : List Cell). d ∷ map cells (filter_map of cs)) head ∙ ap (λ (l : List (List Cell)). c ∷ l) rest)

again : {R : Type 0} (cells : R → List Cell) (of : List Cell → Option R) → ((row : R) → of (cells row) ≡ Some row) → (rows : List R) (written : List (List Cell)) → IsPermutation (map cells rows) written → map cells (filter_map of written) ≡ written
again cells of same rows written p =
    forth cells of written (recursion_from_All (OfRow cells of) written (All-permutation (OfRow cells of) (map cells rows) written p (All-from_recursion (OfRow cells of) (map cells rows) (each_of_row cells of same rows))))

rows_read : (cat : Catalogue) (found : (table : SysTable) → TableFound cat table) (table : SysTable) → rows_in table (catalogue_with (rows_written cat found)) ≡ (found table).is.rows
unfolding catalogue_with
rows_read cat found PgAuthid = again authid_cells authid_of (λ row. refl) cat.pg_authid (found PgAuthid).is.rows (found PgAuthid).is.written.order.permutation
rows_read cat found PgAuthMembers = again auth_members_cells member_of (λ row. refl) cat.pg_auth_members (found PgAuthMembers).is.rows (found PgAuthMembers).is.written.order.permutation
rows_read cat found PgDatabase = again database_cells database_of (λ row. refl) cat.pg_database (found PgDatabase).is.rows (found PgDatabase).is.written.order.permutation
rows_read cat found PgNamespace = again namespace_cells schema_of (λ row. refl) cat.pg_namespace (found PgNamespace).is.rows (found PgNamespace).is.written.order.permutation
rows_read cat found PgType = again type_cells type_of (λ row. refl) cat.pg_type (found PgType).is.rows (found PgType).is.written.order.permutation
rows_read cat found PgEnum = again enum_cells label_of (λ row. refl) cat.pg_enum (found PgEnum).is.rows (found PgEnum).is.written.order.permutation
rows_read cat found PgClass = again class_cells relation_of (λ row. refl) cat.pg_class (found PgClass).is.rows (found PgClass).is.written.order.permutation
rows_read cat found PgAttribute = again attribute_cells column_of (λ row. refl) cat.pg_attribute (found PgAttribute).is.rows (found PgAttribute).is.written.order.permutation
rows_read cat found PgAttrdef = again attrdef_cells default_of (λ row. refl) cat.pg_attrdef (found PgAttrdef).is.rows (found PgAttrdef).is.written.order.permutation
rows_read cat found PgConstraint = again constraint_cells constraint_of (λ row. refl) cat.pg_constraint (found PgConstraint).is.rows (found PgConstraint).is.written.order.permutation
rows_read cat found PgIndex = again index_cells index_of (λ row. refl) cat.pg_index (found PgIndex).is.rows (found PgIndex).is.written.order.permutation
rows_read cat found PgSequence = again sequence_cells sequence_of (λ row. refl) cat.pg_sequence (found PgSequence).is.rows (found PgSequence).is.written.order.permutation
rows_read cat found PgRewrite = again rewrite_cells body_of (λ row. refl) cat.pg_rewrite (found PgRewrite).is.rows (found PgRewrite).is.written.order.permutation
rows_read cat found PgDescription = again description_cells comment_of (λ row. refl) cat.pg_description (found PgDescription).is.rows (found PgDescription).is.written.order.permutation
rows_read cat found PgDepend = again depend_cells dependency_of (λ row. refl) cat.pg_depend (found PgDepend).is.rows (found PgDepend).is.written.order.permutation

-- ---- how many columns a table has

relation_in : Option AttributeRow → ℕ
relation_in None = 0
relation_in (Some a) = a.attrelid

relations_in : (rows : List AttributeRow) → map (λ (c : List Cell). relation_in (column_of c)) (map attribute_cells rows) ≡ column_oids rows
unfolding relation_in
relations_in [] = refl
relations_in (a ∷ rows) = ap (λ (l : List ℕ). a.attrelid ∷ l) (relations_in rows)

counted : (p : ℕ → Bool) (ns : List ℕ) → length (filter p ns) ≡ sum_by (λ (n : ℕ). cond (p n) 1 0) ns
counted p [] = refl
counted p (n ∷ ns) = by (p n) (counted p ns) ∙ sym (sum_by-cons (λ (m : ℕ). cond (p m) 1 0) n ns)
  where
    by : (b : Bool) → length (filter p ns) ≡ sum_by (λ (m : ℕ). cond (p m) 1 0) ns → length (cond {A = List ℕ} b (n ∷ filter p ns) (filter p ns)) ≡ cond b 1 0 + sum_by (λ (m : ℕ). cond (p m) 1 0) ns
    by true rest = omega (arith, rest)
    by false rest = omega (arith, rest)

count_same : (rows later : List AttributeRow) → IsPermutation (map attribute_cells rows) (map attribute_cells later) → (oid : ℕ) → count_of (column_oids later) oid ≡ count_of (column_oids rows) oid
count_same rows later p oid =
    let of = λ (c : List Cell). relation_in (column_of c) in
    let moved : IsPermutation (map of (map attribute_cells rows)) (map of (map attribute_cells later)) = IsPermutation-map of (map attribute_cells rows) (map attribute_cells later) p in
    let both : IsPermutation (column_oids rows) (column_oids later) =
    subst (IsPermutation (column_oids rows)) (relations_in later) (subst (λ (ns : List ℕ). IsPermutation ns (map of (map attribute_cells later))) (relations_in rows) moved) in
    counted (same_oid oid) (column_oids later) ∙ sum_by-IsPermutation (λ (n : ℕ). cond (same_oid oid n) 1 0) (column_oids rows) (column_oids later) both ∙ sym (counted (same_oid oid) (column_oids rows))

-- ---- the export

module _ (one : OneOrder) (can : CanBeWritten) (held : AreHeld) (cat : Catalogue) (rows : TextsByOid) (texts : Texts) (folder : Bytes) (tree : Tree) (are : AreTexts cat rows texts) (good : values_fault cat rows ≡ None)
    (formed : (export : Exported) → IsReordered cat rows export → catalogue_fault export.cat ≡ None) where
  abbrev after : Tree
  after = folder_saved folder texts tree

  abbrev found : (table : SysTable) → TableFound cat table
  found = found_text cat rows texts are

  holds : HoldsTexts folder after cat rows (λ table. (found table).text)
  holds = saved_holds one can cat rows texts are folder tree

  abbrev read : Catalogue
  read = catalogue_with (rows_written cat found)

  abbrev export : Exported
  export = record { cat = read; rows = rows_kept cat rows }

  is_reordered : IsReordered cat rows export
  is_reordered = record {
    order = λ table. subst (IsInOrder table (rows_in table cat)) (sym (rows_read cat found table)) (found table).is.written.order;
    texts = refl;
  }

  same_count : (oid : ℕ) → column_count read oid ≡ column_count cat oid
  same_count oid = count_same cat.pg_attribute read.pg_attribute (is_reordered.order PgAttribute).permutation oid

  same_first : (oids : List ℕ) → AllByRecursion (λ (oid : ℕ). has_oid (table_oids cat) oid ≡ true) oids → first_fault (column_count read) (text_of (rows_kept cat rows)) oids ≡ first_fault (column_count cat) (text_of rows) oids
  unfolding first_fault
  same_first [] all = refl
  same_first (oid ∷ oids) all =
      ap (λ (n : ℕ). option_or (fault_in oid (rows_of n (text_of (rows_kept cat rows) oid))) (first_fault (column_count read) (text_of (rows_kept cat rows)) oids)) (same_count oid)
      ∙ ap (λ (text : Bytes). option_or (fault_in oid (rows_of (column_count cat oid) text)) (first_fault (column_count read) (text_of (rows_kept cat rows)) oids)) (text_kept cat rows oid all.0)
      ∙ ap (λ (o : Option ValuesFault). option_or (fault_in oid (rows_of (column_count cat oid) (text_of rows oid))) o) (same_first oids all.1)

  still_good : values_fault read (rows_kept cat rows) ≡ None
  unfolding values_fault
  still_good =
      ap (first_fault (column_count read) (text_of (rows_kept cat rows))) (oids_stay cat found)
      ∙ same_first (table_oids cat) (each_among (table_oids cat) (table_oids cat) (λ oid has. has))
      ∙ good

  same_data : (used : ℕ) → data_of folder used read after ≡ data_of folder used cat after
  unfolding data_of
  same_data used = rw (oids_stay cat found) refl

  behind_rows : (its : TextsByOid) → its ≡ rows_kept cat rows → IsReadOrTooLarge (have_rows (values_fault read its) >>= λ done. Ok (record { cat = read; rows = its }))
  behind_rows its is =
      subst (λ (fault : Option ValuesFault). IsReadOrTooLarge (have_rows fault >>= λ done. Ok (record { cat = read; rows = its })))
      (sym (ap (values_fault read) is ∙ still_good)) tt

  behind_check : (used : ℕ) → IsReadOrTooLarge (told (data_of folder used read after) >>= λ its. have_rows (values_fault read its) >>= λ done. Ok (record { cat = read; rows = its }))
  behind_check used = by (data_of folder used read after) refl (subst Only (sym (same_data used)) (only_data folder after cat rows found holds used))
    where
      by : (r : Result TextsByOid FolderFault) → data_of folder used read after ≡ r → Only r → IsReadOrTooLarge (told r >>= λ its. have_rows (values_fault read its) >>= λ done. Ok (record { cat = read; rows = its }))
      by (Ok its) is only = behind_rows its (rows_are held cat rows (λ table. (found table).text) folder after holds used read (oids_stay cat found) its is)
      by (Err (TooLarge limit n)) is only = tt
      by (Err Failed) is only = elim only [ ]
      by (Err (Missing name)) is only = elim only [ ]
      by (Err (BadExport file line kind)) is only = elim only [ ]
      by (Err Memory) is only = elim only [ ]

  behind_tables : (used : ℕ) → IsReadOrTooLarge (export_with folder used read after)
  unfolding export_with
  behind_tables used =
      subst (λ (fault : Option CatFault). IsReadOrTooLarge (well_formed fault >>= λ checked. told (data_of folder used read after) >>= λ its. have_rows (values_fault read its) >>= λ done. Ok (record { cat = read; rows = its })))
      (sym (formed export is_reordered)) (behind_check used)

  pub is_read : IsReadOrTooLarge (export_of folder after)
  unfolding export_of
  is_read = by (catalogue_of folder after) refl (only_catalogue folder after cat rows found holds)
    where
      by : (r : Result (List (List (List Cell))) FolderFault) → catalogue_of folder after ≡ r → Only r → IsReadOrTooLarge (told r >>= λ tables. export_with folder (bytes_of folder after) (catalogue_with tables) after)
      by (Ok tables) is only =
          subst (λ (c : Catalogue). IsReadOrTooLarge (export_with folder (bytes_of folder after) c after))
          (sym (ap catalogue_with (tables_read folder after cat rows found holds tables is)))
          (behind_tables (bytes_of folder after))
      by (Err (TooLarge limit n)) is only = tt
      by (Err Failed) is only = elim only [ ]
      by (Err (Missing name)) is only = elim only [ ]
      by (Err (BadExport file line kind)) is only = elim only [ ]
      by (Err Memory) is only = elim only [ ]
