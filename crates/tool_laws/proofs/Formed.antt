-- A catalogue whose only objects are schemas is well-formed.
use Rattle.std.proofs.Common.{◌≡◌, ◌+◌, Bool, false, ◌||◌, List, [], ◌∷◌, ◌++◌, map, filter_map, length, pos, Option, Some, None, refl, sym, ap, ◌∙◌}
use Rattle.std.specs.Ordering.{nat_cmp}
use Rattle.std.specs.Cmp.{nat_cmp_total, eq_by_cmp_equiv}
use Rattle.std.specs.Cmp.Lexicographic.{nat_list_cmp_total}
use Rattle.std.specs.List.{list_any, AllByRecursion, IsDistinct}
use Rattle.std.proofs.lemmas.List.{map-append}
use Rattle.cat_rows.specs.declared.table.SysTable.{SysTable}
use Rattle.cat_rows.specs.declared.table.SysTable.TheVariants.{PgAuthid, PgAuthMembers, PgDatabase, PgNamespace, PgType, PgEnum, PgClass, PgAttribute, PgAttrdef, PgConstraint, PgIndex, PgSequence, PgRewrite, PgDescription, PgDepend}
use Rattle.cat_rows.specs.declared.schemas.NamespaceRow.{NamespaceRow}
use Rattle.cat_model.specs.References.{is_system}
use Rattle.cat_model.specs.Values.{Bytes}
use Rattle.well_formed.specs.Catalogues.{table_fault}
use Rattle.cat_names.specs.Findings.{first_kind, fault_or, first_from}
use Rattle.cat_names.specs.Lookups.{has_key, role_name, is_no_oid}
use Rattle.cat_names.specs.Rights.{is_by_other, other_left_out}
use Rattle.cat_book.specs.Rules.{RowName, name_cmp, found}
use Rattle.plain_tables.specs.Schemas.{schema_rules}
use Rattle.schema_folders.specs.declared.schemas.SchemaRow.{SchemaRow}
use Rattle.schema_folders.specs.Folder.{boot_row, namespace_row, schemas_alone}
use Rattle.schema_folders.proofs.Standing.{apart_from, behind, same_name, same_oid, name_flips, oid_flips}
use Rattle.tool_laws.specs.Opening.{AreSchemas}

-- no oid and no name before it is the row's
oid_free : (before : List SchemaRow) (row : SchemaRow) → list_any (λ b. same_oid b row) before ≡ false → has_key nat_cmp (filter_map (λ (s : NamespaceRow). Some s.oid) (map namespace_row before)) row.oid ≡ false
oid_free before row e = same before ∙ e
  where
    same : (before : List SchemaRow) → has_key nat_cmp (filter_map (λ (s : NamespaceRow). Some s.oid) (map namespace_row before)) row.oid ≡ list_any (λ b. same_oid b row) before
    same [] = refl
    same (b ∷ before) = ap (λ t. t || has_key nat_cmp (filter_map (λ (s : NamespaceRow). Some s.oid) (map namespace_row before)) row.oid) ((eq_by_cmp_equiv nat_cmp_total).symm row.oid b.oid) ∙ ap (λ t. same_oid b row || t) (same before)

abbrev own_name : Bytes → RowName
own_name name = (0, 0, pos 0, name)

name_free : (before : List SchemaRow) (row : SchemaRow) → list_any (λ b. same_name b row) before ≡ false → has_key name_cmp (filter_map (λ (s : NamespaceRow). Some (own_name s.nspname)) (map namespace_row before)) (own_name row.name) ≡ false
name_free before row e = same before ∙ e
  where
    same : (before : List SchemaRow) → has_key name_cmp (filter_map (λ (s : NamespaceRow). Some (own_name s.nspname)) (map namespace_row before)) (own_name row.name) ≡ list_any (λ b. same_name b row) before
    same [] = refl
    same (b ∷ before) = ap (λ t. t || has_key name_cmp (filter_map (λ (s : NamespaceRow). Some (own_name s.nspname)) (map namespace_row before)) (own_name row.name)) ((eq_by_cmp_equiv nat_list_cmp_total).symm row.name b.name) ∙ ap (λ t. same_name b row || t) (same before)

-- nobody else has granted anything
by_no_other : (owner : Option Bytes) → is_by_other owner None ≡ false
by_no_other None = refl
by_no_other (Some owner) = refl

no_kind : (o n bad other : Bool) → o ≡ false → n ≡ false → bad ≡ false → other ≡ false → first_kind (record { repeated_oid = o; repeated_name = n || false; dangling = false; bad_text = bad; left_out = other_left_out other }) ≡ None
no_kind o n bad other p q r s = rw (p, q, r, s) refl

both_false : (a b : Bool) → a ≡ false → b ≡ false → (a || ((b || false) || false)) ≡ false
both_false a b p q = rw (p, q) refl

-- the row has no fault behind those before it
row_clean : (all before : List SchemaRow) (row : SchemaRow) (more : List SchemaRow) → IsDistinct same_oid (before ++ row ∷ more) → IsDistinct same_name (before ++ row ∷ more) → is_no_oid row.oid ≡ false → is_system row.name ≡ false
    → first_kind (found schema_rules (schemas_alone all) (map namespace_row before) (namespace_row row)) ≡ None
row_clean all before row more o n id user =
    no_kind (has_key nat_cmp (filter_map (λ (s : NamespaceRow). Some s.oid) (map namespace_row before)) row.oid) (has_key name_cmp (filter_map (λ (s : NamespaceRow). Some (own_name s.nspname)) (map namespace_row before)) (own_name row.name)) (is_no_oid row.oid || ((is_system row.name || false) || false)) (is_by_other (role_name (boot_row ∷ []) 10) None)
    (oid_free before row (apart_from same_oid oid_flips before row more o))
    (name_free before row (apart_from same_name name_flips before row more n))
    (both_false (is_no_oid row.oid) (is_system row.name) id user)
    (by_no_other (role_name (boot_row ∷ []) 10))

rows_clean : (all before rows : List SchemaRow) → IsDistinct same_oid (before ++ rows) → IsDistinct same_name (before ++ rows) → AllByRecursion (λ row. is_no_oid row.oid ≡ false) rows → AllByRecursion (λ row. is_system row.name ≡ false) rows
    → first_from (found schema_rules (schemas_alone all)) None (map namespace_row before) (map namespace_row rows) ≡ None
unfolding first_from
rows_clean all before [] o n ids users = refl
rows_clean all before (row ∷ rows) o n ids users =
    ap (λ k. fault_or (length (map namespace_row before) + 1) k (first_from (found schema_rules (schemas_alone all)) None (map namespace_row before ++ namespace_row row ∷ []) (map namespace_row rows))) (row_clean all before row rows o n ids.0 users.0)
    ∙ ap (λ b. first_from (found schema_rules (schemas_alone all)) None b (map namespace_row rows)) (sym (map-append namespace_row before (row ∷ [])))
    ∙ rows_clean all (before ++ row ∷ []) rows (behind same_oid oid_flips before row rows o) (behind same_name name_flips before row rows n) ids.1 users.1

-- no table of such a catalogue has a fault
pub tables_clean : (rows : List SchemaRow) → AreSchemas rows → (table : SysTable) → table_fault (schemas_alone rows) table ≡ None
unfolding table_fault first_from
tables_clean rows are PgAuthid = refl
tables_clean rows are PgAuthMembers = refl
tables_clean rows are PgDatabase = refl
tables_clean rows are PgNamespace = rows_clean rows [] rows are.oids are.names are.ids are.users
tables_clean rows are PgType = refl
tables_clean rows are PgEnum = refl
tables_clean rows are PgClass = refl
tables_clean rows are PgAttribute = refl
tables_clean rows are PgAttrdef = refl
tables_clean rows are PgConstraint = refl
tables_clean rows are PgIndex = refl
tables_clean rows are PgSequence = refl
tables_clean rows are PgRewrite = refl
tables_clean rows are PgDescription = refl
tables_clean rows are PgDepend = refl
