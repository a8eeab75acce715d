-- What tables keep of an opening meets the conditions of its tables in the order in which a folder is read too.
use Rattle.std.proofs.Common.{◌≡◌, ℕ, Bool, true, false, cond, not, ◌&&◌, ◌||◌, List, Option, Some, None, refl, sym, ap, subst, ◌∙◌}
use Rattle.std.proofs.lemmas.Bool.{and_parts, and_from}
use Rattle.std.proofs.lemmas.Cmp.{then_total, on_total, int_cmp_total}
use Rattle.std.specs.Cmp.{IsTotalOrder, nat_cmp_total}
use Rattle.std.specs.Cmp.Lexicographic.{nat_list_cmp_total}
use Rattle.std.specs.List.{filter, slice_get}
use Rattle.std.specs.Option.{option_map, option_and_then}
use Rattle.std.specs.Ordering.{nat_cmp}
use Rattle.cat_rows.specs.declared.catalogue.Catalogue.{Catalogue}
use Rattle.cat_rows.specs.declared.notes.DependRow.{DependRow}
use Rattle.cat_rows.specs.declared.relations.AttributeRow.{AttributeRow}
use Rattle.cat_rows.specs.declared.schemas.NamespaceRow.{NamespaceRow}
use Rattle.cat_rows.specs.declared.table.SysTable.TheVariants.{PgNamespace, PgType}
use Rattle.cat_rows.specs.declared.types.TypeRow.{TypeRow}
use Rattle.cat_rows.specs.RowCells.{namespace_cells, type_cells}
use Rattle.cat_model.specs.declared.object.QName.{QName}
use Rattle.cat_model.specs.declared.type_name.TypeName.{TypeName}
use Rattle.cat_model.specs.declared.words.What.{What}
use Rattle.cat_model.specs.Values.{Bytes, Named}
use Rattle.cat_names.specs.DataSets.{TextsByOid}
use Rattle.cat_names.specs.declared.relations.RelationKind.{RelationKind}
use Rattle.cat_names.specs.Kinds.{kind_of, is_table}
use Rattle.cat_names.specs.Lookups.{same_oid, is_no_oid, has_oid}
use Rattle.cat_naming.specs.Texts.{rows_by_oid}
use Rattle.cat_book.specs.Chains.{type_of}
use Rattle.cat_book.specs.Leads.{is_base_there, type_oids, has_columns}
use Rattle.cat_book.specs.Meets.{Meets}
use Rattle.cat_book.specs.Paths.{type_path, path_of}
use Rattle.cat_book.specs.Rules.{RowName, Place, name_cmp, place_cmp}
use Rattle.cat_sound.specs.Sound.{IsSound}
use Rattle.cat_sound.specs.Texts.{Texts}
use Rattle.exports.specs.Cells.{schema_of as schema_of_cells, type_of as type_of_cells}
use Rattle.exports.specs.Exports.{Exported}
use Rattle.named_tables.specs.Oids.{AreOids}
use Rattle.named_tables.proofs.Rows.{in_place, among_in, no_keys, no_marks}
use Rattle.named_objects.specs.Oids.{ObjectOids}
use Rattle.named_objects.specs.Standing.{AllStandFor}
use Rattle.named_objects.specs.Views.{AreKept}
use Rattle.named_objects.proofs.Found.{from_filter, in_filter, has_mapped}
use Rattle.named_objects.proofs.Lookups.{has_tie}
use Rattle.plain_tables.specs.Depends.{dependency_left_out, depend_left_out, depend_rules, class_of_relations}
use Rattle.row_texts.specs.TypeTexts.{type_named}
use Rattle.saved_folders.specs.Exports.{IsReordered}
use Rattle.sound_loads.proofs.Classes.{not_false}
use Rattle.sound_loads.proofs.Types.{base_found}
use Rattle.text_tables.specs.Agreeing.{agrees_if_named, is_without_row, is_at}
use Rattle.text_tables.specs.Columns.{column_rules, is_column_number, is_column_there}
use Rattle.well_formed.specs.Formed.{IsWellFormed}
use Rattle.reordered_rows.proofs.Moving.{Moved, rows_moved, found_same, keys_moved}
use Rattle.reordered_rows.proofs.Tables.{of_cells, attributes, kind_same, all_stand}

name_total : IsTotalOrder name_cmp
name_total =
    then_total (then_total (then_total (on_total (λ (n : RowName). n.0) nat_cmp_total) (on_total (λ (n : RowName). n.1) nat_cmp_total)) (on_total (λ (n : RowName). n.2) int_cmp_total)) (on_total (λ (n : RowName). n.3) nat_list_cmp_total)

place_total : IsTotalOrder place_cmp
place_total = then_total (on_total (λ (p : Place). p.0) nat_cmp_total) (on_total (λ (p : Place). p.1) int_cmp_total)

module _ (texts : Texts) (named : Named) (sound : IsSound texts named) (oids : ObjectOids) (own : AreOids named oids.of) (current : Bytes) (depends : List DependRow) (cat : Catalogue) (put : TextsByOid)
    (well : IsWellFormed cat) (stand : AllStandFor named oids current depends cat (rows_by_oid put)) (export : Exported) (again : IsReordered cat put export) (kept : AreKept cat) where
  kinds : (oid : ℕ) → kind_of export.cat.pg_class oid ≡ kind_of cat.pg_class oid
  kinds = kind_same texts named sound oids own current depends cat put well stand export again

  types : Moved cat.pg_type export.cat.pg_type
  types = rows_moved type_cells (of_cells type_cells type_of_cells (λ row. refl)) cat.pg_type export.cat.pg_type (again.order PgType).permutation

  schemas : Moved cat.pg_namespace export.cat.pg_namespace
  schemas = rows_moved namespace_cells (of_cells namespace_cells schema_of_cells (λ row. refl)) cat.pg_namespace export.cat.pg_namespace (again.order PgNamespace).permutation

  -- ---- types

  base_there : (oid : ℕ) → is_base_there cat.pg_type oid ≡ true → is_base_there export.cat.pg_type oid ≡ true
  base_there oid was = by (is_no_oid oid) refl
    where
      by : (b : Bool) → is_no_oid oid ≡ b → is_base_there export.cat.pg_type oid ≡ true
      by true is = rw is refl
      by false is =
          let t = base_found cat oid was is in
          let place = types.to t.among.0 t.row t.among.1 in
          let has : has_oid (type_oids export.cat.pg_type) oid ≡ true = ap (has_oid (type_oids export.cat.pg_type)) t.same ∙ has_mapped nat_cmp (λ (r : TypeRow). r.oid) export.cat.pg_type t.row (has_tie t.row.oid t.row.oid refl) (among_in export.cat.pg_type t.row place) in
          rw is has

  row_path : (t : TypeRow) → type_path export.cat.pg_namespace t ≡ type_path cat.pg_namespace t
  row_path t =
      ap (option_map (λ (s : NamespaceRow). let p : QName = record { schema = s.nspname; name = t.typname } in p))
      (found_same (λ (s : NamespaceRow). s.oid) cat.pg_namespace export.cat.pg_namespace schemas well.schemas.oids t.typnamespace)

  path_same : (oid : ℕ) → path_of export.cat oid ≡ path_of cat oid
  path_same oid =
      ap (option_and_then (type_path export.cat.pg_namespace)) (found_same (λ (t : TypeRow). t.oid) cat.pg_type export.cat.pg_type types well.types.oids oid)
      ∙ by (type_of cat.pg_type oid)
    where
      by : (o : Option TypeRow) → option_and_then (type_path export.cat.pg_namespace) o ≡ option_and_then (type_path cat.pg_namespace) o
      by None = refl
      by (Some t) = row_path t

  still_agrees : (oid : ℕ) (o : Option TypeName) → agrees_if_named export.cat oid o ≡ agrees_if_named cat oid o
  still_agrees oid None = refl
  still_agrees oid (Some name) = by (is_no_oid oid)
    where
      by : (b : Bool) → cond b (is_without_row name) (is_at (path_of export.cat oid) name) ≡ cond b (is_without_row name) (is_at (path_of cat oid) name)
      by true = refl
      by false = ap (λ (p : Option QName). is_at p name) (path_same oid)

  -- ---- columns of what is no table

  abbrev others : AttributeRow → Bool
  others a = not (is_table (kind_of cat.pg_class a.attrelid))

  abbrev others_again : AttributeRow → Bool
  others_again a = not (is_table (kind_of export.cat.pg_class a.attrelid))

  same_others : (a : AttributeRow) → others_again a ≡ others a
  same_others a = ap (λ (k : Option RelationKind). not (is_table k)) (kinds a.attrelid)

  moved : Moved cat.pg_attribute export.cat.pg_attribute
  moved = attributes texts named sound oids own current depends cat put well stand export again

  -- a column that is kept was
  was_kept : (i : ℕ) (a : AttributeRow) → slice_get (filter others_again export.cat.pg_attribute) i ≡ Some a → (k : ℕ) × (slice_get (filter others cat.pg_attribute) k ≡ Some a)
  was_kept i a at =
      let here = from_filter others_again export.cat.pg_attribute a (among_in (filter others_again export.cat.pg_attribute) a (i, at)) in
      let place = in_place export.cat.pg_attribute a here.0 in
      in_place (filter others cat.pg_attribute) a (in_filter others cat.pg_attribute a (among_in cat.pg_attribute a (moved.from place.0, moved.at place.0 a place.1)) (sym (same_others a) ∙ here.1))

  column_there : (a : AttributeRow) → not (is_column_there cat a) ≡ false → not (is_column_there export.cat a) ≡ false
  column_there a was =
      let parts = and_parts (has_columns (kind_of cat.pg_class a.attrelid)) (is_base_there cat.pg_type a.atttypid) (not_false (is_column_there cat a) was) in
      ap not (and_from (has_columns (kind_of export.cat.pg_class a.attrelid)) (is_base_there export.cat.pg_type a.atttypid) (ap has_columns (kinds a.attrelid) ∙ parts.0) (base_there a.atttypid parts.1))

  columns_kept : Meets column_rules export.cat (filter others_again export.cat.pg_attribute)
  columns_kept = record {
    oids = no_keys nat_cmp (filter others_again export.cat.pg_attribute);
    names = keys_moved name_cmp name_total (λ r. (column_rules.keys r).name) others others_again same_others cat.pg_attribute export.cat.pg_attribute moved kept.view_columns.names;
    places = keys_moved place_cmp place_total (λ r. (column_rules.keys r).place) others others_again same_others cat.pg_attribute export.cat.pg_attribute moved kept.view_columns.places;
    marks = no_marks (filter others_again export.cat.pg_attribute);
    objects = λ i row at. refl;
    there = λ i row at. let was = was_kept i row at in column_there row (kept.view_columns.there was.0 row was.1);
    texts = λ i row at. let was = was_kept i row at in ap (λ (b : Bool). not (is_column_number row.attnum) || not b) (still_agrees row.atttypid (type_named row.typtext)) ∙ kept.view_columns.texts was.0 row was.1;
    inside = λ i row at. refl;
    needed = refl;
  }

  -- ---- dependencies

  same_depends : export.cat.pg_depend ≡ cat.pg_depend
  same_depends = (all_stand texts named sound oids own current depends cat put well stand export again).dependencies ∙ sym stand.dependencies

  depend_inside : (r : DependRow) → depend_left_out export.cat r ≡ depend_left_out cat r
  depend_inside r = by (same_oid r.classid class_of_relations && same_oid r.refclassid class_of_relations)
    where
      by : (b : Bool) → cond {A = Option What} b (dependency_left_out (kind_of export.cat.pg_class r.objid) (kind_of export.cat.pg_class r.refobjid) r.objsubid r.deptype) None ≡ cond {A = Option What} b (dependency_left_out (kind_of cat.pg_class r.objid) (kind_of cat.pg_class r.refobjid) r.objsubid r.deptype) None
      by false = refl
      by true =
          ap (λ (k : Option RelationKind). dependency_left_out k (kind_of export.cat.pg_class r.refobjid) r.objsubid r.deptype) (kinds r.objid)
          ∙ ap (λ (k : Option RelationKind). dependency_left_out (kind_of cat.pg_class r.objid) k r.objsubid r.deptype) (kinds r.refobjid)

  depends_kept : Meets depend_rules export.cat cat.pg_depend
  depends_kept = record {
    oids = no_keys nat_cmp cat.pg_depend;
    names = no_keys name_cmp cat.pg_depend;
    places = no_keys place_cmp cat.pg_depend;
    marks = no_marks cat.pg_depend;
    objects = λ i row at. refl;
    there = λ i row at. refl;
    texts = λ i row at. refl;
    inside = λ i row at. depend_inside row ∙ kept.depends.inside i row at;
    needed = refl;
  }

  pub stay_kept : AreKept export.cat
  stay_kept = record { view_columns = columns_kept; depends = subst (Meets depend_rules export.cat) (sym same_depends) depends_kept }
