-- Tables in the order in which a folder is read stand for what they stood for.
use Rattle.std.proofs.Common.{◌≡◌, inl, inr, ℕ, pos, true, List, [], ◌∷◌, map, Option, Some, None, option_map, refl, sym, ap, subst, ◌∙◌}
use Rattle.std.proofs.lemmas.List.Elements.{All-from_recursion}
use Rattle.std.proofs.lemmas.List.Sorted.{IsPermutation-refl}
use Rattle.std.specs.Cmp.{tied_itself, nat_cmp_total}
use Rattle.std.specs.FinMap.{get}
use Rattle.std.specs.List.{filter}
use Rattle.std.specs.List.Sorted.{ties}
use Rattle.std.specs.Ordering.{nat_cmp, eq_by_cmp, is_eq}
use Rattle.cat_rows.specs.declared.catalogue.Catalogue.{Catalogue}
use Rattle.cat_rows.specs.declared.cell.Cell.{Cell}
use Rattle.cat_rows.specs.declared.notes.DependRow.{DependRow}
use Rattle.cat_rows.specs.declared.relations.ClassRow.{ClassRow}
use Rattle.cat_rows.specs.declared.table.SysTable.TheVariants.{PgAuthid, PgAuthMembers, PgDatabase, PgNamespace, PgType, PgEnum, PgClass, PgAttribute, PgAttrdef, PgConstraint, PgIndex, PgSequence, PgRewrite, PgDescription, PgDepend}
use Rattle.cat_rows.specs.Catalogues.{rows_in}
use Rattle.cat_rows.specs.Order.{IsInOrder, comes_before}
use Rattle.cat_rows.specs.RowCells.{authid_cells, auth_members_cells, database_cells, namespace_cells, type_cells, enum_cells, class_cells, attribute_cells, attrdef_cells, constraint_cells, index_cells, sequence_cells, rewrite_cells, description_cells, depend_cells}
use Rattle.cat_rows.proofs.OneOrder.{one_order}
use Rattle.cat_model.specs.declared.key.Key.TheVariants as key
use Rattle.cat_model.specs.declared.object.QName.{QName}
use Rattle.cat_model.specs.declared.value.Column.{Column}
use Rattle.cat_model.specs.declared.value.Value.{Value}
use Rattle.cat_model.specs.declared.value.Value.TheVariants as value
use Rattle.cat_model.specs.RowTexts.{rows_held}
use Rattle.cat_model.specs.Values.{Bytes, Named, Row}
use Rattle.cat_names.specs.DataSets.{TextsByOid}
use Rattle.cat_names.specs.declared.relations.RelationKind.{RelationKind}
use Rattle.cat_names.specs.declared.relations.RelationKind.TheVariants.{Table}
use Rattle.cat_names.specs.Kinds.{relation_kind, class_of, kind_of, is_table}
use Rattle.cat_names.specs.Lookups.{has_oid}
use Rattle.cat_naming.specs.Texts.{rows_by_oid}
use Rattle.cat_sound.specs.Asked.{Asked, Passes}
use Rattle.cat_sound.specs.Sound.{IsMet, IsSound}
use Rattle.cat_sound.specs.Texts.{Texts}
use Rattle.cat_sound.proofs.Lists.{IsIn, of_each}
use Rattle.exports.specs.Cells.{authid_of, member_of, database_of, schema_of, type_of, label_of, relation_of, column_of, default_of, constraint_of, index_of, sequence_of, body_of, comment_of, dependency_of}
use Rattle.exports.specs.Exports.{Exported}
use Rattle.named_tables.specs.Oids.{AreOids}
use Rattle.named_tables.specs.Standing.{IsAmong}
use Rattle.named_tables.proofs.Rows.{among_in, any_its}
use Rattle.named_tables.specs.Cluster.{IsRole, role_row, IsMember, member_row, IsDatabase, database_row, IsSchema, IsSchemaRow}
use Rattle.named_objects.specs.Constraints.{IsConstrained, IsConstrainedRow, IsComment, IsCommentRow}
use Rattle.named_objects.specs.Oids.{ObjectOids}
use Rattle.named_objects.specs.Relations.{IsRelation, IsRelationRow, IsColumn, IsColumnRow, IsDefault, IsDefaultRow, IsSequence, IsSequenceRow, IsIndex, IsIndexRow, IsBody, IsBodyRow}
use Rattle.named_objects.specs.Standing.{AllStandFor}
use Rattle.named_objects.specs.Types.{IsType, IsTypeRow, IsLabel, label_row}
use Rattle.named_objects.proofs.Lookups as named_lookups
use Rattle.named_objects.proofs.Lookups.{AreLedTo}
use Rattle.saved_folders.specs.Exports.{IsReordered}
use Rattle.saved_folders.proofs.Kept.{text_kept}
use Rattle.sound_loads.proofs.Apart.{in_filter, in_sorted}
use Rattle.well_formed.specs.Formed.{IsWellFormed}
use Rattle.table_rows.specs.Tables.{is_table_row, unsorted_oids, table_oids}
use Rattle.table_rows.specs.Values.{text_of}
use Rattle.reordered_rows.proofs.Moving.{Moved, rows_moved, found_same, stand_moved, kept_moved}

same_row : {R : Type 0} (a b : R) → Some a ≡ Some b → a ≡ b
same_row a b e = cc

-- cells are of one row
pub of_cells : {R : Type 0} (cells : R → List Cell) (of : List Cell → Option R) → ((row : R) → of (cells row) ≡ Some row) → (a b : R) → cells a ≡ cells b → a ≡ b
of_cells cells of same a b e = same_row a b (sym (same a) ∙ ap of e ∙ same b)

-- ---- dependencies are written as they stand

depends_in_order : (rows : List (List Cell)) → IsInOrder PgDepend rows rows
depends_in_order rows = record {
  permutation = IsPermutation-refl rows;
  rising = λ k d low high. refl;
  stable = All-from_recursion (λ row. filter (ties (comes_before PgDepend) row) rows ≡ filter (ties (comes_before PgDepend) row) rows) rows (of_each (λ row. filter (ties (comes_before PgDepend) row) rows ≡ filter (ties (comes_before PgDepend) row) rows) rows (λ row among. refl));
}

same_mapped : {R : Type 0} (cells : R → List Cell) → ((a b : R) → cells a ≡ cells b → a ≡ b) → (xs ys : List R) → map cells xs ≡ map cells ys → xs ≡ ys
same_mapped cells one [] [] e = refl
same_mapped cells one [] (y ∷ ys) e = absurd cc
same_mapped cells one (x ∷ xs) [] e = absurd cc
same_mapped cells one (x ∷ xs) (y ∷ ys) e =
    let head : cells x ≡ cells y = cc in
    let tail : map cells xs ≡ map cells ys = cc in
    let first = one x y head in
    let more = same_mapped cells one xs ys tail in
    λ i. first i ∷ more i

module _ (texts : Texts) (named : Named) (sound : IsSound texts named) (oids : ObjectOids) (own : AreOids named oids.of) (current : Bytes) (depends : List DependRow) (cat : Catalogue) (put : TextsByOid)
    (well : IsWellFormed cat) (stand : AllStandFor named oids current depends cat (rows_by_oid put)) (export : Exported) (again : IsReordered cat put export) where
  pub classes : Moved cat.pg_class export.cat.pg_class
  classes = rows_moved class_cells (of_cells class_cells relation_of (λ row. refl)) cat.pg_class export.cat.pg_class (again.order PgClass).permutation

  pub attributes : Moved cat.pg_attribute export.cat.pg_attribute
  attributes = rows_moved attribute_cells (of_cells attribute_cells column_of (λ row. refl)) cat.pg_attribute export.cat.pg_attribute (again.order PgAttribute).permutation

  led : AreLedTo named oids.of cat
  led = record { roles = stand.cluster.roles; schemas = stand.cluster.schemas; relations = stand.relations; types = stand.types }

  -- ---- what a relation is, by its oid

  class_same : (oid : ℕ) → class_of export.cat.pg_class oid ≡ class_of cat.pg_class oid
  class_same oid = found_same (λ (r : ClassRow). r.oid) cat.pg_class export.cat.pg_class classes well.relations.oids oid

  pub kind_same : (oid : ℕ) → kind_of export.cat.pg_class oid ≡ kind_of cat.pg_class oid
  kind_same oid = ap (option_map (λ (r : ClassRow). relation_kind r.relkind)) (class_same oid)

  -- ---- rows of tables

  in_map : {A B : Type 0} (f : A → B) (xs : List A) (x : A) → IsIn x xs → IsIn (f x) (map f xs)
  in_map f [] x among = elim among [ ]
  in_map f (y ∷ ys) x (inl same) = inl (ap f same)
  in_map f (y ∷ ys) x (inr later) = inr (in_map f ys x later)

  has_one : (ns : List ℕ) (n : ℕ) → IsIn n ns → has_oid ns n ≡ true
  has_one ns n among = any_its (eq_by_cmp nat_cmp n) ns n among (ap is_eq (tied_itself nat_cmp_total n))

  table_among : (c : ClassRow) → IsAmong cat.pg_class c → relation_kind c.relkind ≡ Table → IsIn c.oid (table_oids cat)
  unfolding table_oids is_table_row
  table_among c among is =
      in_sorted (λ oid. pos oid) (unsorted_oids cat.pg_class) c.oid
      (in_map (λ (r : ClassRow). r.oid) (filter is_table_row cat.pg_class) c (in_filter is_table_row cat.pg_class c (among_in cat.pg_class c among) (ap (λ (k : RelationKind). is_table (Some k)) is)))

  held_table : (q : QName) (held : List Row) → get named (key.Rows q) ≡ Some (value.Rows held) → has_oid (table_oids cat) (oids.of (key.Rel q)) ≡ true
  held_table q held there =
      let table = named_table (sound.each (key.Rows q) (value.Rows held) there).others.0 in
      let at = named_lookups.class_found texts named sound oids.of own cat led q (value.Table table.0) table.1 in
      let kind = named_lookups.kind_so texts named sound oids.of own cat led q (value.Table table.0) at.row at.says.kind in
      has_one (table_oids cat) (oids.of (key.Rel q)) (subst (λ (n : ℕ). IsIn n (table_oids cat)) at.says.oid (table_among at.row at.among kind))
    where
      named_table : IsMet named (key.Rel q, Asked.holds held) → (columns : List Column) × (get named (key.Rel q) ≡ Some (value.Table columns))
      named_table met = by (get named (key.Rel q)) refl met
        where
          by : (o : Option Value) → get named (key.Rel q) ≡ o → Passes o (Asked.holds held) → (columns : List Column) × (get named (key.Rel q) ≡ Some (value.Table columns))
          by (Some (value.Table columns)) is holds = (columns, is)
          by (Some _) is holds = elim holds [ ]
          by None is holds = elim holds [ ]

  text_same : (oid : ℕ) → has_oid (table_oids cat) oid ≡ true → rows_by_oid export.rows oid ≡ rows_by_oid put oid
  text_same oid has = ap rows_held (ap (λ (t : TextsByOid). text_of t oid) again.texts ∙ text_kept cat put oid has)

  -- ---- all of it

  pub all_stand : AllStandFor named oids current depends export.cat (rows_by_oid export.rows)
  all_stand = record {
    cluster = record {
      roles = stand_moved (IsRole named) (λ r row. row ≡ role_row oids.of r) cat.pg_authid export.cat.pg_authid (rows_moved authid_cells (of_cells authid_cells authid_of (λ row. refl)) cat.pg_authid export.cat.pg_authid (again.order PgAuthid).permutation) stand.cluster.roles;
      members = stand_moved (IsMember named) (λ m row. row ≡ member_row oids.of m) cat.pg_auth_members export.cat.pg_auth_members (rows_moved auth_members_cells (of_cells auth_members_cells member_of (λ row. refl)) cat.pg_auth_members export.cat.pg_auth_members (again.order PgAuthMembers).permutation) stand.cluster.members;
      databases = stand_moved (IsDatabase named) (λ d row. row ≡ database_row oids.of current d) cat.pg_database export.cat.pg_database (rows_moved database_cells (of_cells database_cells database_of (λ row. refl)) cat.pg_database export.cat.pg_database (again.order PgDatabase).permutation) stand.cluster.databases;
      schemas = stand_moved (IsSchema named) (IsSchemaRow oids.of) cat.pg_namespace export.cat.pg_namespace (rows_moved namespace_cells (of_cells namespace_cells schema_of (λ row. refl)) cat.pg_namespace export.cat.pg_namespace (again.order PgNamespace).permutation) stand.cluster.schemas;
    };
    types = stand_moved (IsType named) (IsTypeRow oids.of) cat.pg_type export.cat.pg_type (rows_moved type_cells (of_cells type_cells type_of (λ row. refl)) cat.pg_type export.cat.pg_type (again.order PgType).permutation) stand.types;
    labels = stand_moved (IsLabel named) (λ l row. row ≡ label_row oids l) cat.pg_enum export.cat.pg_enum (rows_moved enum_cells (of_cells enum_cells label_of (λ row. refl)) cat.pg_enum export.cat.pg_enum (again.order PgEnum).permutation) stand.labels;
    relations = stand_moved (IsRelation named) (IsRelationRow named oids.of) cat.pg_class export.cat.pg_class classes stand.relations;
    columns = kept_moved (IsColumn named) (IsColumnRow oids) (λ a. is_table (kind_of cat.pg_class a.attrelid)) (λ a. is_table (kind_of export.cat.pg_class a.attrelid)) (λ a. ap is_table (kind_same a.attrelid)) cat.pg_attribute export.cat.pg_attribute attributes stand.columns;
    defaults = stand_moved (IsDefault named) (IsDefaultRow oids) cat.pg_attrdef export.cat.pg_attrdef (rows_moved attrdef_cells (of_cells attrdef_cells default_of (λ row. refl)) cat.pg_attrdef export.cat.pg_attrdef (again.order PgAttrdef).permutation) stand.defaults;
    constraints = stand_moved (IsConstrained named) (IsConstrainedRow oids) cat.pg_constraint export.cat.pg_constraint (rows_moved constraint_cells (of_cells constraint_cells constraint_of (λ row. refl)) cat.pg_constraint export.cat.pg_constraint (again.order PgConstraint).permutation) stand.constraints;
    indexes = stand_moved (IsIndex named) (IsIndexRow oids.of) cat.pg_index export.cat.pg_index (rows_moved index_cells (of_cells index_cells index_of (λ row. refl)) cat.pg_index export.cat.pg_index (again.order PgIndex).permutation) stand.indexes;
    sequences = stand_moved (IsSequence named) (IsSequenceRow named oids) cat.pg_sequence export.cat.pg_sequence (rows_moved sequence_cells (of_cells sequence_cells sequence_of (λ row. refl)) cat.pg_sequence export.cat.pg_sequence (again.order PgSequence).permutation) stand.sequences;
    bodies = stand_moved (IsBody named) (IsBodyRow oids.of) cat.pg_rewrite export.cat.pg_rewrite (rows_moved rewrite_cells (of_cells rewrite_cells body_of (λ row. refl)) cat.pg_rewrite export.cat.pg_rewrite (again.order PgRewrite).permutation) stand.bodies;
    comments = stand_moved (IsComment named) (IsCommentRow oids) cat.pg_description export.cat.pg_description (rows_moved description_cells (of_cells description_cells comment_of (λ row. refl)) cat.pg_description export.cat.pg_description (again.order PgDescription).permutation) stand.comments;
    dependencies = sym (same_mapped depend_cells (of_cells depend_cells dependency_of (λ row. refl)) cat.pg_depend export.cat.pg_depend (one_order PgDepend (rows_in PgDepend cat) (rows_in PgDepend cat) (rows_in PgDepend export.cat) (depends_in_order (rows_in PgDepend cat)) (again.order PgDepend))) ∙ stand.dependencies;
    rows_held = λ q held there. text_same (oids.of (key.Rel q)) (held_table q held there) ∙ stand.rows_held q held there;
  }
