-- The objects that a selection chooses of a well-formed catalogue can be dumped.
use Rattle.std.proofs.Common.{◌≡◌, ℕ, Bool, true, false, cond, ◌&&◌, ◌||◌, List, [], ◌∷◌, ◌++◌, Option, Some, None, refl, sym, ap, subst, ◌∙◌}
use Rattle.std.specs.Prelude.{not, filter_map}
use Rattle.std.specs.List.{AllByRecursion}
use Rattle.std.specs.Option.{ForSome, option_and_then, option_map}
use Rattle.std.specs.Cmp.{tied_itself, nat_cmp_total}
use Rattle.std.specs.Ordering.{is_eq}
use Rattle.std.proofs.lemmas.Bool.{and_parts, or_parts}
use Rattle.copy_text.specs.Texts.{IsName}
use Rattle.cat_model.specs.declared.object.QName.{QName}
use Rattle.cat_model.specs.References.{is_system}
use Rattle.cat_model.specs.Values.{Bytes}
use Rattle.cat_rows.specs.declared.catalogue.Catalogue.{Catalogue}
use Rattle.cat_rows.specs.declared.constraints.ConstraintRow.{ConstraintRow}
use Rattle.cat_rows.specs.declared.relations.ClassRow.{ClassRow}
use Rattle.cat_rows.specs.declared.relations.IndexRow.{IndexRow}
use Rattle.cat_rows.specs.declared.schemas.NamespaceRow.{NamespaceRow}
use Rattle.cat_rows.specs.declared.types.TypeRow.{TypeRow}
use Rattle.cat_rows.specs.declared.table.SysTable.TheVariants as table
use Rattle.cat_rows.specs.RowCells.{namespace_cells, type_cells, class_cells, constraint_cells}
use Rattle.cat_names.specs.declared.relations.RelationKind.{RelationKind}
use Rattle.cat_names.specs.declared.relations.RelationKind.TheVariants as relation
use Rattle.cat_names.specs.declared.rights.GrantKind.{GrantKind}
use Rattle.cat_names.specs.declared.rights.GrantKind.TheVariants as on
use Rattle.cat_names.specs.Kinds.{relation_kind, class_of}
use Rattle.cat_names.specs.Lookups.{same_oid, has_oid, role_name, schema_oids, is_role}
use Rattle.cat_names.specs.Rights.{is_bad_acl}
use Rattle.cat_book.specs.Chains.{type_of, is_domain_letter}
use Rattle.cat_book.specs.Leads.{is_key, has_own_row}
use Rattle.cat_book.specs.Meets.{EachRow}
use Rattle.cat_book.specs.Paths.{schema_of, class_path, class_path_of}
use Rattle.plain_tables.specs.Relations.{is_there, is_bad_relation_acl}
use Rattle.text_tables.specs.Types.{is_good_domain}
use Rattle.constraint_table.specs.Table.{is_foreign}
use Rattle.well_formed.specs.Formed.{IsWellFormed}
use Rattle.acl_text.specs.declared.list.AclItem.{AclItem}
use Rattle.ddl_laws.specs.Respelling.{IsPath}
use Rattle.graph_parts.specs.declared.object.Obj.{Obj}
use Rattle.graph_parts.specs.declared.object.ObjId.{ObjId}
use Rattle.graph_parts.specs.declared.object.ObjKind.{ObjKind}
use Rattle.graph_parts.specs.declared.object.ObjKind.TheVariants as kind
use Rattle.obj_graph.specs.declared.select.Select.{Select}
use Rattle.obj_graph.specs.Ids.{schema_id, type_id, relation_id, constraint_id, data_id, pre_data, post_data}
use Rattle.obj_graph.specs.Chosen.{is_schema_chosen, is_in_chosen, schema_name, is_relation_chosen, is_oid_chosen}
use Rattle.obj_graph.specs.Objects.{object, at_path, chosen_if, schema_object, type_object, object_kind, data_kind, relation_object, is_data_left_out, data_object, schema_name_of, constraint_object, index_object, boundary, holders, contents, followers, unless, objects_of}
use Rattle.dump_stmts.specs.Paths.{joined, path_of}
use Rattle.dump_toc.specs.Owners.{owner_oid, owner_of}
use Rattle.dump_toc.specs.Rights.{granted_as, grant_kind, acl_of}
use Rattle.grant_laws.specs.Items.{kind_on, IsRoleName}
use Rattle.stmt_laws.specs.Named.{HoldsCells, IsNamed}
use Rattle.stmt_laws.proofs.Lists.{Known, known_map, found_has, chosen_have}
use Rattle.stmt_laws.proofs.Rows.{IsOf, rows_hold, path_known, class_path_known}
use Rattle.toc_laws.specs.Dumps.{is_data, AreRights, IsDumpable}
use Rattle.toc_laws.proofs.Dumps.{kind_same}
use Rattle.toc_laws.proofs.Remarks.{both_have}
use Rattle.dump_script_laws.proofs.Lists.{for_known, for_none, any_then, any_chosen, each_all, two_have, find_at}
use Rattle.dump_script_laws.proofs.Rights.{AreRoles, role_is, IsGoodAcl, shown, acl_is}

-- ---- objects by their kinds

-- what is known of an object of a kind, whoever owns it
pub record Fits (cat : Catalogue) (o : Obj) (k : ObjKind) : Type 0 where
  pub named : IsNamed o
  pub path : is_data k ≡ true → (q : QName) × (path_of o ≡ Some q)
  pub rights : ForSome (granted_as o k) (λ what. AreRights (kind_on what) (acl_of cat o k))

abbrev pub IsFit : Catalogue → Obj → Type 0
IsFit cat o = Fits cat o o.kind

pub dumpable : (cat : Catalogue) → AreRoles cat.pg_authid → (o : Obj) → IsFit cat o → IsDumpable cat o
unfolding owner_of
dumpable cat roles o f = record {
  named = f.named;
  path = f.path;
  owner = for_known IsRoleName (owner_of cat o) (any_then IsRoleName (role_name cat.pg_authid) (λ oid. role_is cat.pg_authid oid roles) (owner_oid cat o o.kind));
  rights = f.rights;
}

-- the rights of a list that is good for the kind
given_rights : (cat : Catalogue) (o : Obj) (k : ObjKind) → Known (IsGoodAcl (grant_kind k)) (acl_of cat o k) → ForSome (granted_as o k) (λ what. AreRights (kind_on what) (acl_of cat o k))
given_rights cat o k good = λ what e. subst (λ (g : GrantKind). AreRights g (acl_of cat o k)) (sym (kind_same o k what e)) (for_known (IsGoodAcl (grant_kind k)) (acl_of cat o k) good)

-- an object of these names on which there are no rights and which is no rows
pub plain_fits : (cat : Catalogue) (o : Obj) (k : ObjKind) → Known IsName o.schema → Known IsName o.name → is_data k ≡ false → granted_as o k ≡ None → Fits cat o k
plain_fits cat o k schema name bare none = record {
  named = (for_known IsName o.schema schema, for_known IsName o.name name);
  path = λ e. absurd cc;
  rights = λ what e. absurd cc;
}

abbrev schema_part : Option QName → Option Bytes
schema_part path = option_map (λ q. q.schema) path

abbrev name_part : Option QName → Option Bytes
name_part path = option_map (λ q. q.name) path

pub schema_known : (path : Option QName) → Known IsPath path → Known IsName (schema_part path)
schema_known None k = tt
schema_known (Some q) k = k.0

pub name_known : (path : Option QName) → Known IsPath path → Known IsName (name_part path)
name_known None k = tt
name_known (Some q) k = k.1

-- one of this path
pub path_fits : (cat : Catalogue) (id : ObjId) (k : ObjKind) (path : Option QName) → Known IsPath path → is_data k ≡ false → granted_as (at_path id k path) k ≡ None → Fits cat (at_path id k path) k
path_fits cat id k path is bare none = plain_fits cat (at_path id k path) k (schema_known path is) (name_known path is) bare none

chosen_known : (cat : Catalogue) (b : Bool) (o : Obj) → IsFit cat o → Known (IsFit cat) (chosen_if b o)
chosen_known cat true o is = is
chosen_known cat false o is = tt

-- ---- schemas

good_schemas : (cat : Catalogue) → AreRoles cat.pg_authid → IsWellFormed cat → AllByRecursion (λ s. IsGoodAcl on.Schema s.nspacl) cat.pg_namespace
good_schemas cat roles formed =
    each_all (λ (s : NamespaceRow). IsGoodAcl on.Schema s.nspacl) cat.pg_namespace
    (λ i s at. acl_is on.Schema cat.pg_authid roles s.nspacl (or_parts (is_system s.nspname) (is_bad_acl on.Schema cat.pg_authid s.nspacl) (formed.schemas.texts i s at)).1)

schema_known_of : (cat : Catalogue) → HoldsCells cat → (oid : ℕ) → Known IsName (schema_name cat oid)
schema_known_of cat holds oid =
    known_map (IsOf table.PgNamespace namespace_cells) IsName (λ s. s.nspname) (schema_of cat.pg_namespace oid)
    (found_has (IsOf table.PgNamespace namespace_cells) (λ s. same_oid oid s.oid) cat.pg_namespace (rows_hold cat holds table.PgNamespace namespace_cells cat.pg_namespace refl))
    (λ s row. row.cells.1.0)

schema_fits : (cat : Catalogue) → AreRoles cat.pg_authid → IsWellFormed cat → (s : NamespaceRow) → IsOf table.PgNamespace namespace_cells s → Fits cat (object (schema_id s.oid) kind.Schema None (Some s.nspname)) kind.Schema
schema_fits cat roles formed s row = record {
  named = (for_none IsName, for_known IsName (Some s.nspname) row.cells.1.0);
  path = λ e. absurd cc;
  rights = given_rights cat (object (schema_id s.oid) kind.Schema None (Some s.nspname)) kind.Schema
      (known_map (λ (s : NamespaceRow). IsGoodAcl on.Schema s.nspacl) (IsGoodAcl on.Schema) (λ s. s.nspacl) (schema_of cat.pg_namespace s.oid) (found_has (λ (s : NamespaceRow). IsGoodAcl on.Schema s.nspacl) (λ t. same_oid s.oid t.oid) cat.pg_namespace (good_schemas cat roles formed)) (λ t good. good));
}

-- ---- types

good_types : (cat : Catalogue) → AreRoles cat.pg_authid → IsWellFormed cat → AllByRecursion (λ t. IsGoodAcl on.Type t.typacl) cat.pg_type
good_types cat roles formed =
    each_all (λ (t : TypeRow). IsGoodAcl on.Type t.typacl) cat.pg_type
    (λ i t at. acl_is on.Type cat.pg_authid roles t.typacl (or_parts (is_bad_acl on.Type cat.pg_authid t.typacl) (is_domain_letter t.typtype && not (is_good_domain cat t)) (formed.types.texts i t at)).0)

type_fits : (cat : Catalogue) → HoldsCells cat → AreRoles cat.pg_authid → IsWellFormed cat → (t : TypeRow) → IsOf table.PgType type_cells t → Fits cat (object (type_id t.oid) kind.UserType (schema_name cat t.typnamespace) (Some t.typname)) kind.UserType
type_fits cat holds roles formed t row = record {
  named = (for_known IsName (schema_name cat t.typnamespace) (schema_known_of cat holds t.typnamespace), for_known IsName (Some t.typname) row.cells.1.0);
  path = λ e. absurd cc;
  rights = given_rights cat (object (type_id t.oid) kind.UserType (schema_name cat t.typnamespace) (Some t.typname)) kind.UserType
      (known_map (λ (t : TypeRow). IsGoodAcl on.Type t.typacl) (IsGoodAcl on.Type) (λ t. t.typacl) (type_of cat.pg_type t.oid) (found_has (λ (t : TypeRow). IsGoodAcl on.Type t.typacl) (λ u. same_oid t.oid u.oid) cat.pg_type (good_types cat roles formed)) (λ u good. good));
}

-- ---- relations

oid_tied : (oid : ℕ) → same_oid oid oid ≡ true
oid_tied oid = ap is_eq (tied_itself nat_cmp_total oid)

-- the first relation of the oid of one is that one
relations_found : (cat : Catalogue) → IsWellFormed cat → EachRow (λ r. class_of cat.pg_class r.oid ≡ Some r) cat.pg_class
relations_found cat formed i r at = find_at (λ (other : ClassRow). same_oid r.oid other.oid) cat.pg_class i r at (oid_tied r.oid) (λ j other lt e. formed.relations.oids j i other r other.oid r.oid lt e at refl refl)

schema_there : (schemas : List NamespaceRow) (oid : ℕ) → has_oid (schema_oids schemas) oid ≡ true → (s : NamespaceRow) × (schema_of schemas oid ≡ Some s)
schema_there [] oid e = absurd cc
schema_there (s ∷ schemas) oid e = by (same_oid oid s.oid) e (schema_there schemas oid)
  where
    by : (b : Bool) → (b || has_oid (schema_oids schemas) oid) ≡ true → (has_oid (schema_oids schemas) oid ≡ true → (t : NamespaceRow) × (schema_of schemas oid ≡ Some t)) → (t : NamespaceRow) × (cond {A = Option NamespaceRow} b (Some s) (schema_of schemas oid) ≡ Some t)
    by true f later = (s, refl)
    by false f later = later f

pub record IsRelation (cat : Catalogue) (r : ClassRow) : Type 0 where
  pub found : class_of cat.pg_class r.oid ≡ Some r
  pub rights : is_bad_relation_acl (relation_kind r.relkind) cat.pg_authid r.relacl ≡ false
  pub there : (q : QName) × (class_path cat.pg_namespace r ≡ Some q)
  pub path : Known IsPath (class_path cat.pg_namespace r)

path_there : (cat : Catalogue) → IsWellFormed cat → EachRow (λ r. (q : QName) × (class_path cat.pg_namespace r ≡ Some q)) cat.pg_class
path_there cat formed i r at =
    let there = shown (is_there cat r) (formed.relations.there i r at) in
    let schema = (and_parts (has_oid (schema_oids cat.pg_namespace) r.relnamespace) (is_role cat.pg_authid r.relowner && has_own_row cat (relation_kind r.relkind) r.oid) there).0 in
    let s = schema_there cat.pg_namespace r.relnamespace schema in
    (record { schema = s.0.nspname; name = r.relname }, ap (λ (o : Option NamespaceRow). option_map (λ (s : NamespaceRow). record { schema = s.nspname; name = r.relname }) o) s.1)

-- the same of each, beside its cells
abbrev Facts : Catalogue → ClassRow → Type 0
Facts cat r = (class_of cat.pg_class r.oid ≡ Some r) × (is_bad_relation_acl (relation_kind r.relkind) cat.pg_authid r.relacl ≡ false) × ((q : QName) × (class_path cat.pg_namespace r ≡ Some q))

relations_are : (cat : Catalogue) → HoldsCells cat → IsWellFormed cat → AllByRecursion (IsRelation cat) cat.pg_class
relations_are cat holds formed =
    two_have (IsOf table.PgClass class_cells) (Facts cat) (IsRelation cat) cat.pg_class
    (λ r row facts. record { found = facts.0; rights = facts.1; there = facts.2; path = path_known cat holds r.relnamespace r.relname row.cells.1.0 })
    (rows_hold cat holds table.PgClass class_cells cat.pg_class refl)
    (each_all (Facts cat) cat.pg_class (λ i r at. (relations_found cat formed i r at, formed.relations.texts i r at, path_there cat formed i r at)))

abbrev class_acl : Option ClassRow → Option (Option (List AclItem))
class_acl row = option_map (λ r. r.relacl) row

-- a relation with rights
relation_fits : (cat : Catalogue) (r : ClassRow) → IsRelation cat r → (k : ObjKind) → is_data k ≡ false → acl_of cat (at_path (relation_id r.oid) k (class_path cat.pg_namespace r)) k ≡ class_acl (class_of cat.pg_class r.oid) → IsGoodAcl (grant_kind k) r.relacl
    → Fits cat (at_path (relation_id r.oid) k (class_path cat.pg_namespace r)) k
relation_fits cat r is k bare acl good =
    let o = at_path (relation_id r.oid) k (class_path cat.pg_namespace r) in
    let same : Some r.relacl ≡ acl_of cat o k = sym (acl ∙ ap class_acl is.found) in
    record {
      named = (for_known IsName o.schema (schema_known (class_path cat.pg_namespace r) is.path), for_known IsName o.name (name_known (class_path cat.pg_namespace r) is.path));
      path = λ e. absurd cc;
      rights = given_rights cat o k (subst (Known (IsGoodAcl (grant_kind k))) same good);
    }

relation_known : (cat : Catalogue) → AreRoles cat.pg_authid → (select : Select) (r : ClassRow) → IsRelation cat r → Known (IsFit cat) (relation_object cat select r)
relation_known cat roles select r is = by (relation_kind r.relkind) refl
  where
    by : (what : RelationKind) → relation_kind r.relkind ≡ what → Known (IsFit cat) (option_and_then (λ k. chosen_if (is_relation_chosen cat select r) (at_path (relation_id r.oid) k (class_path cat.pg_namespace r))) (object_kind what))
    by relation.Table e = chosen_known cat (is_relation_chosen cat select r) _ (relation_fits cat r is kind.Table refl refl (acl_is on.Table cat.pg_authid roles r.relacl (sym (ap (λ (w : RelationKind). is_bad_relation_acl w cat.pg_authid r.relacl) e) ∙ is.rights)))
    by relation.View e = chosen_known cat (is_relation_chosen cat select r) _ (relation_fits cat r is kind.View refl refl (acl_is on.Table cat.pg_authid roles r.relacl (sym (ap (λ (w : RelationKind). is_bad_relation_acl w cat.pg_authid r.relacl) e) ∙ is.rights)))
    by relation.Sequence e = chosen_known cat (is_relation_chosen cat select r) _ (relation_fits cat r is kind.Sequence refl refl (acl_is on.Sequence cat.pg_authid roles r.relacl (sym (ap (λ (w : RelationKind). is_bad_relation_acl w cat.pg_authid r.relacl) e) ∙ is.rights)))
    by relation.Index e = tt
    by (relation.Other letter) e = tt

-- ---- what relations hold

path_is : (id : ObjId) (k : ObjKind) (path : Option QName) (q : QName) → path ≡ Some q → path_of (at_path id k path) ≡ Some q
path_is id k path q e = ap (λ (p : Option QName). joined (schema_part p) (name_part p)) e

data_fits : (cat : Catalogue) (r : ClassRow) → IsRelation cat r → (k : ObjKind) → granted_as (at_path (data_id r.oid) k (class_path cat.pg_namespace r)) k ≡ None → Fits cat (at_path (data_id r.oid) k (class_path cat.pg_namespace r)) k
data_fits cat r is k none =
    let path = class_path cat.pg_namespace r in
    record {
      named = (for_known IsName (schema_part path) (schema_known path is.path), for_known IsName (name_part path) (name_known path is.path));
      path = λ e. (is.there.0, path_is (data_id r.oid) k path is.there.0 is.there.1);
      rights = λ what e. absurd cc;
    }

data_known : (cat : Catalogue) (select : Select) (r : ClassRow) → IsRelation cat r → Known (IsFit cat) (data_object cat select r)
data_known cat select r is = by (relation_kind r.relkind)
  where
    by : (what : RelationKind) → Known (IsFit cat) (option_and_then (λ k. chosen_if (is_relation_chosen cat select r && not (is_data_left_out cat select r k)) (at_path (data_id r.oid) k (class_path cat.pg_namespace r))) (data_kind what))
    by relation.Table = chosen_known cat _ _ (data_fits cat r is kind.TableData refl)
    by relation.Sequence = chosen_known cat _ _ (data_fits cat r is kind.SeqValue refl)
    by other = tt

-- ---- constraints and indexes

schema_of_relation : (cat : Catalogue) → HoldsCells cat → (oid : ℕ) → Known IsName (schema_name_of cat oid)
schema_of_relation cat holds oid = any_then IsName (λ (r : ClassRow). schema_name cat r.relnamespace) (λ r. schema_known_of cat holds r.relnamespace) (class_of cat.pg_class oid)

constraint_known : (cat : Catalogue) → HoldsCells cat → (select : Select) (c : ConstraintRow) → IsOf table.PgConstraint constraint_cells c → Known (IsFit cat) (constraint_object cat select c)
constraint_known cat holds select c row = by (is_key c) (is_foreign c)
  where
    fits : (k : ObjKind) → is_data k ≡ false → granted_as (object (constraint_id c.oid) k (schema_name_of cat c.conrelid) (Some c.conname)) k ≡ None → Known (IsFit cat) (chosen_if (is_oid_chosen cat select c.conrelid) (object (constraint_id c.oid) k (schema_name_of cat c.conrelid) (Some c.conname)))
    fits k bare none = chosen_known cat _ _ (plain_fits cat (object (constraint_id c.oid) k (schema_name_of cat c.conrelid) (Some c.conname)) k (schema_of_relation cat holds c.conrelid) row.cells.1.0 bare none)

    by : (key foreign : Bool) → Known (IsFit cat) (option_and_then (λ k. chosen_if (is_oid_chosen cat select c.conrelid) (object (constraint_id c.oid) k (schema_name_of cat c.conrelid) (Some c.conname))) (cond key (Some kind.Constraint) (cond foreign (Some kind.Foreign) None)))
    by true foreign = fits kind.Constraint refl refl
    by false true = fits kind.Foreign refl refl
    by false false = tt

index_known : (cat : Catalogue) → HoldsCells cat → (select : Select) (i : IndexRow) → Known (IsFit cat) (index_object cat select i)
index_known cat holds select i = chosen_known cat _ _ (path_fits cat (relation_id i.indexrelid) kind.Index (class_path_of cat i.indexrelid) (class_path_known cat holds i.indexrelid) refl refl)

-- ---- all of them

unless_have : (P : Obj → Type 0) (b : Bool) (os : List Obj) → AllByRecursion P os → AllByRecursion P (unless b os)
unless_have P true os all = tt
unless_have P false os all = all

boundary_fits : (cat : Catalogue) (id : ObjId) (k : ObjKind) → is_data k ≡ false → granted_as (object id k None None) k ≡ None → AllByRecursion (IsFit cat) (boundary id k)
boundary_fits cat id k bare none = (plain_fits cat (object id k None None) k tt tt bare none, tt)

holders_fit : (cat : Catalogue) → HoldsCells cat → AreRoles cat.pg_authid → IsWellFormed cat → (select : Select) → AllByRecursion (IsFit cat) (holders cat select)
holders_fit cat holds roles formed select =
    let schemas = filter_map (schema_object select) cat.pg_namespace in
    let types = filter_map (type_object cat select) cat.pg_type in
    let relations = filter_map (relation_object cat select) cat.pg_class in
    both_have (IsFit cat) (schemas ++ types) relations
    (both_have (IsFit cat) schemas types
    (chosen_have (IsOf table.PgNamespace namespace_cells) (IsFit cat) (schema_object select) cat.pg_namespace (rows_hold cat holds table.PgNamespace namespace_cells cat.pg_namespace refl) (λ s row. chosen_known cat (is_schema_chosen select s.nspname) _ (schema_fits cat roles formed s row)))
    (chosen_have (IsOf table.PgType type_cells) (IsFit cat) (type_object cat select) cat.pg_type (rows_hold cat holds table.PgType type_cells cat.pg_type refl) (λ t row. chosen_known cat (is_in_chosen select (schema_name cat t.typnamespace)) _ (type_fits cat holds roles formed t row))))
    (chosen_have (IsRelation cat) (IsFit cat) (relation_object cat select) cat.pg_class (relations_are cat holds formed) (relation_known cat roles select))

contents_fit : (cat : Catalogue) → HoldsCells cat → IsWellFormed cat → (select : Select) → AllByRecursion (IsFit cat) (contents cat select)
contents_fit cat holds formed select = chosen_have (IsRelation cat) (IsFit cat) (data_object cat select) cat.pg_class (relations_are cat holds formed) (data_known cat select)

any_index : (cat : Catalogue) → HoldsCells cat → (select : Select) (rows : List IndexRow) → AllByRecursion (IsFit cat) (filter_map (index_object cat select) rows)
any_index cat holds select rows = any_chosen (IsFit cat) (index_object cat select) (index_known cat holds select) rows

followers_fit : (cat : Catalogue) → HoldsCells cat → (select : Select) → AllByRecursion (IsFit cat) (followers cat select)
followers_fit cat holds select =
    both_have (IsFit cat) (filter_map (constraint_object cat select) cat.pg_constraint) (filter_map (index_object cat select) cat.pg_index)
    (chosen_have (IsOf table.PgConstraint constraint_cells) (IsFit cat) (constraint_object cat select) cat.pg_constraint (rows_hold cat holds table.PgConstraint constraint_cells cat.pg_constraint refl) (constraint_known cat holds select))
    (any_index cat holds select cat.pg_index)

pub objects_fit : (cat : Catalogue) → HoldsCells cat → AreRoles cat.pg_authid → IsWellFormed cat → (select : Select) → AllByRecursion (IsFit cat) (objects_of cat select)
unfolding objects_of
objects_fit cat holds roles formed select =
    let before = unless select.data_only (holders cat select) in
    let first = boundary pre_data kind.PreData in
    let rows = unless select.schema_only (contents cat select) in
    let last = boundary post_data kind.PostData in
    let behind = unless select.data_only (followers cat select) in
    both_have (IsFit cat) (before ++ first ++ rows ++ last) behind
    (both_have (IsFit cat) (before ++ first ++ rows) last
    (both_have (IsFit cat) (before ++ first) rows
    (both_have (IsFit cat) before first (unless_have (IsFit cat) select.data_only (holders cat select) (holders_fit cat holds roles formed select)) (boundary_fits cat pre_data kind.PreData refl refl))
    (unless_have (IsFit cat) select.schema_only (contents cat select) (contents_fit cat holds formed select)))
    (boundary_fits cat post_data kind.PostData refl refl))
    (unless_have (IsFit cat) select.data_only (followers cat select) (followers_fit cat holds select))
