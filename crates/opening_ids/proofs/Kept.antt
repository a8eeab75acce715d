-- The rows of roles, databases and schemas give their oids, and these are kept.
use Rattle.std.proofs.Common.{◌≡◌, inl, inr, ℕ, zero, suc, ◌<◌, pos, true, false, true≢false, List, [], ◌∷◌, Option, Some, None, refl, sym, ap, subst, ◌∙◌, arith}
use Rattle.std.proofs.lemmas.Cmp.{int_cmp_total}
use Rattle.std.specs.Cmp.{nat_cmp_total, tied_itself}
use Rattle.std.specs.Cmp.Lexicographic.{nat_list_cmp_total}
use Rattle.std.specs.FinMap.{get, get-empty}
use Rattle.std.specs.FinSet.{contains, contains-empty}
use Rattle.std.specs.List.{slice_get}
use Rattle.std.specs.Ordering.{nat_cmp, is_eq, eq_by_cmp}
use Rattle.cat_rows.specs.declared.catalogue.Catalogue.{Catalogue}
use Rattle.cat_rows.specs.declared.constraints.ConstraintRow.{ConstraintRow}
use Rattle.cat_rows.specs.declared.notes.DependRow.{DependRow}
use Rattle.cat_rows.specs.declared.relations.AttrdefRow.{AttrdefRow}
use Rattle.cat_rows.specs.declared.relations.ClassRow.{ClassRow}
use Rattle.cat_rows.specs.declared.relations.RewriteRow.{RewriteRow}
use Rattle.cat_rows.specs.declared.roles.AuthidRow.{AuthidRow}
use Rattle.cat_rows.specs.declared.roles.AuthMembersRow.{AuthMembersRow}
use Rattle.cat_rows.specs.declared.roles.DatabaseRow.{DatabaseRow}
use Rattle.cat_rows.specs.declared.schemas.NamespaceRow.{NamespaceRow}
use Rattle.cat_rows.specs.declared.types.EnumRow.{EnumRow}
use Rattle.cat_rows.specs.declared.types.TypeRow.{TypeRow}
use Rattle.cat_model.specs.declared.key.Key.TheVariants as key
use Rattle.cat_model.specs.Values.{Bytes}
use Rattle.cat_names.specs.Lookups.{is_no_oid, role_name}
use Rattle.cat_book.specs.Meets.{Meets}
use Rattle.cat_book.specs.Rules.{Rules, RowName, name_cmp, is_nothing}
use Rattle.cat_sound.proofs.Lists.{IsIn}
use Rattle.plain_tables.specs.Roles.{role_rules, database_rules}
use Rattle.plain_tables.specs.Schemas.{schema_rules}
use Rattle.object_ids.specs.Slots.{Slot, slot_cmp, object, table_of}
use Rattle.object_ids.specs.Ids.{IdsOf, Row, row_cmp, KeepIds, none, avoiding}
use Rattle.opening_ids.specs.Opening.{of_role, of_member, member_slot, of_database, of_schema, of_type, of_label, of_relation, of_default, of_constraint, of_body, all_given, depends_avoided, cluster_given, objects_given, parts_given, opening_ids}
use Rattle.opening_ids.proofs.Keeping.{IsFree, AreApartRows, all_keep, others_free, all_give, place_of, apart_pairs}

same_thing : {T : Type 0} (t u : T) → Some t ≡ Some u → t ≡ u
same_thing t u e = cc

name_itself : (n : RowName) → eq_by_cmp name_cmp n n ≡ true
name_itself n = rw (tied_itself nat_cmp_total n.0, tied_itself nat_cmp_total n.1, tied_itself int_cmp_total n.2, tied_itself nat_list_cmp_total n.3) refl

oid_itself : (a b : ℕ) → a ≡ b → eq_by_cmp nat_cmp a b ≡ true
oid_itself a b same = ap (λ (n : ℕ). eq_by_cmp nat_cmp a n) (sym same) ∙ ap is_eq (tied_itself nat_cmp_total a)

place_in : {R : Type 0} (rows : List R) (i : ℕ) (r : R) → slice_get rows i ≡ Some r → IsIn r rows
place_in [] i r at = absurd cc
place_in (q ∷ rows) zero r at = inl (same_thing q r at)
place_in (q ∷ rows) (suc i) r at = inr (place_in rows i r at)

-- ---- rows that have an oid and a name of their own

module _ {R : Type 0} (rules : Rules Catalogue R) (cat : Catalogue) (rows : List R) (meets : Meets rules cat rows)
    (oid : R → ℕ) (name : R → Bytes) (slot : Bytes → Slot)
    (keyed : (r : R) → (rules.keys r).oid ≡ Some (oid r))
    (called : (r : R) → (rules.keys r).name ≡ Some (0, 0, pos 0, name r))
    (one : (a b : Bytes) → slot a ≡ slot b → a ≡ b) where
  abbrev of_name : R → Option Slot
  of_name r = Some (slot (name r))

  abbrev name_key : Bytes → RowName
  name_key n = (0, 0, pos 0, n)

  apart : AreApartRows oid of_name rows
  apart = apart_pairs oid of_name rows (λ i j r q less at_i at_j s t is_s is_t.
      let slots_s : slot (name r) ≡ s = same_thing (slot (name r)) s is_s in
      let slots_t : slot (name q) ≡ t = same_thing (slot (name q)) t is_t in
      let names : eq_by_cmp name_cmp (name_key (name q)) (name_key (name r)) ≡ false = meets.names i j r q (name_key (name r)) (name_key (name q)) less at_i at_j (called r) (called q) in
      let oids : eq_by_cmp nat_cmp (oid q) (oid r) ≡ false = meets.oids i j r q (oid r) (oid q) less at_i at_j (keyed r) (keyed q) in (
        λ same. true≢false (sym (ap (λ (n : Bytes). eq_by_cmp name_cmp (name_key (name q)) (name_key n)) (sym (one (name q) (name r) (slots_t ∙ same ∙ sym slots_s))) ∙ name_itself (name_key (name q))) ∙ names),
        λ same. true≢false (sym (oid_itself (oid q) (oid r) (ap (λ (p : Row). p.1) same)) ∙ oids),
      ))

  some : (i : ℕ) (r : R) → slice_get rows i ≡ Some r → oid r ≡ 0 → ⊥
  some i r at is_zero =
      let nothing : is_nothing (rules.keys r).oid ≡ true = ap is_nothing (keyed r) ∙ ap is_no_oid is_zero in
      true≢false (sym nothing ∙ meets.objects i r at)

  pub all_named : (ids : IdsOf) → ((r : R) → IsFree ids (slot (name r)) (oid r)) → (i : ℕ) (r : R) → slice_get rows i ≡ Some r → get (all_given oid of_name ids rows).ids (slot (name r)) ≡ Some (oid r)
  all_named ids free i r at =
      all_give oid of_name rows ids apart
      (λ q among. let it = place_of rows q among in some it.0 q it.1)
      (λ q among s is. subst (λ (t : Slot). IsFree ids t (oid q)) (same_thing (slot (name q)) s is) (free q))
      r (place_in rows i r at) (slot (name r)) refl

-- ---- what later rows keep

depends_keep : (rows : List DependRow) (ids : IdsOf) → KeepIds ids (depends_avoided ids rows)
depends_keep [] ids t had at = at
depends_keep (r ∷ rows) ids t had at = depends_keep rows (avoiding (avoiding ids r.objid) r.refobjid) t had at

module _ (cat : Catalogue) where
  abbrev roles_given : IdsOf
  roles_given = all_given (λ (r : AuthidRow). r.oid) of_role none cat.pg_authid

  abbrev members_given : IdsOf
  members_given = all_given (λ (r : AuthMembersRow). r.oid) (of_member cat) roles_given cat.pg_auth_members

  abbrev databases_given : IdsOf
  databases_given = all_given (λ (r : DatabaseRow). r.oid) of_database members_given cat.pg_database

  abbrev types_given : IdsOf
  types_given = all_given (λ (r : TypeRow). r.oid) (of_type cat) (cluster_given cat none) cat.pg_type

  abbrev labels_given : IdsOf
  labels_given = all_given (λ (r : EnumRow). r.oid) (of_label cat) types_given cat.pg_enum

  abbrev defaults_given : IdsOf
  defaults_given = all_given (λ (r : AttrdefRow). r.oid) (of_default cat) (objects_given cat (cluster_given cat none)) cat.pg_attrdef

  abbrev constraints_given : IdsOf
  constraints_given = all_given (λ (r : ConstraintRow). r.oid) (of_constraint cat) defaults_given cat.pg_constraint

  later : KeepIds (cluster_given cat none) (opening_ids cat)
  later t had at =
      depends_keep cat.pg_depend (parts_given cat (objects_given cat (cluster_given cat none))) t had
      (all_keep (λ (r : RewriteRow). r.oid) (of_body cat) cat.pg_rewrite constraints_given t had
      (all_keep (λ (r : ConstraintRow). r.oid) (of_constraint cat) cat.pg_constraint defaults_given t had
      (all_keep (λ (r : AttrdefRow). r.oid) (of_default cat) cat.pg_attrdef (objects_given cat (cluster_given cat none)) t had
      (all_keep (λ (r : ClassRow). r.oid) (of_relation cat) cat.pg_class labels_given t had
      (all_keep (λ (r : EnumRow). r.oid) (of_label cat) cat.pg_enum types_given t had
      (all_keep (λ (r : TypeRow). r.oid) (of_type cat) cat.pg_type (cluster_given cat none) t had at))))))

  after_databases : KeepIds databases_given (opening_ids cat)
  after_databases t had at = later t had (all_keep (λ (r : NamespaceRow). r.oid) of_schema cat.pg_namespace databases_given t had at)

  after_roles : KeepIds roles_given (opening_ids cat)
  after_roles t had at =
      after_databases t had
      (all_keep (λ (r : DatabaseRow). r.oid) of_database cat.pg_database members_given t had
      (all_keep (λ (r : AuthMembersRow). r.oid) (of_member cat) cat.pg_auth_members roles_given t had at))

  -- ---- what is free before its table's turn

  none_free : (s : Slot) (n : ℕ) → IsFree none s n
  none_free s n = (get-empty slot_cmp s, contains-empty row_cmp (table_of s, n))

  member_table : (a b c : Option Bytes) (t : Slot) → member_slot a b c ≡ Some t → table_of t ≡ 1
  member_table (Some a) (Some b) (Some c) t is = ap table_of (sym (same_thing (object (key.Member a b c)) t is))
  member_table (Some a) (Some b) None t is = absurd cc
  member_table (Some a) None c t is = absurd cc
  member_table None b c t is = absurd cc

  free_before_databases : (s : Slot) (n : ℕ) → (table_of s ≡ 0 → ⊥) → (table_of s ≡ 1 → ⊥) → IsFree members_given s n
  free_before_databases s n no_role no_member =
      others_free (λ (r : AuthMembersRow). r.oid) (of_member cat) cat.pg_auth_members roles_given s n
      (λ r t is same. no_member (same ∙ member_table (role_name cat.pg_authid r.roleid) (role_name cat.pg_authid r.member) (role_name cat.pg_authid r.grantor) t is))
      (others_free (λ (r : AuthidRow). r.oid) of_role cat.pg_authid none s n
      (λ r t is same. no_role (same ∙ ap table_of (sym (same_thing (object (key.Role r.rolname)) t is))))
      (none_free s n))

  free_before_schemas : (s : Slot) (n : ℕ) → (table_of s ≡ 0 → ⊥) → (table_of s ≡ 1 → ⊥) → (table_of s ≡ 15 → ⊥) → IsFree databases_given s n
  free_before_schemas s n no_role no_member no_database =
      others_free (λ (r : DatabaseRow). r.oid) of_database cat.pg_database members_given s n
      (λ r t is same. no_database (same ∙ ap table_of (sym (same_thing (object (key.Database r.datname)) t is))))
      (free_before_databases s n no_role no_member)

  role_name_of : (a b : Bytes) → object (key.Role a) ≡ object (key.Role b) → a ≡ b
  role_name_of a b same = by (ap (λ (s : Slot). s.1) same)
    where
      by : key.Role a ≡ key.Role b → a ≡ b
      by keys = cc

  database_name_of : (a b : Bytes) → object (key.Database a) ≡ object (key.Database b) → a ≡ b
  database_name_of a b same = by (ap (λ (s : Slot). s.1) same)
    where
      by : key.Database a ≡ key.Database b → a ≡ b
      by keys = cc

  schema_name_of : (a b : Bytes) → object (key.Schema a) ≡ object (key.Schema b) → a ≡ b
  schema_name_of a b same = by (ap (λ (s : Slot). s.1) same)
    where
      by : key.Schema a ≡ key.Schema b → a ≡ b
      by keys = cc

  pub roles_keep : (i : ℕ) (r : AuthidRow) → Meets role_rules cat cat.pg_authid → slice_get cat.pg_authid i ≡ Some r → get (opening_ids cat).ids (object (key.Role r.rolname)) ≡ Some r.oid
  roles_keep i r meets at =
      after_roles (object (key.Role r.rolname)) r.oid
      (all_named role_rules cat cat.pg_authid meets (λ r. r.oid) (λ r. r.rolname) (λ n. object (key.Role n)) (λ r. refl) (λ r. refl) role_name_of none (λ q. none_free (object (key.Role q.rolname)) q.oid) i r at)

  pub databases_keep : (i : ℕ) (r : DatabaseRow) → Meets database_rules cat cat.pg_database → slice_get cat.pg_database i ≡ Some r → get (opening_ids cat).ids (object (key.Database r.datname)) ≡ Some r.oid
  databases_keep i r meets at =
      after_databases (object (key.Database r.datname)) r.oid
      (all_named database_rules cat cat.pg_database meets (λ r. r.oid) (λ r. r.datname) (λ n. object (key.Database n)) (λ r. refl) (λ r. refl) database_name_of members_given (λ q. free_before_databases (object (key.Database q.datname)) q.oid (λ e. omega (arith, e)) (λ e. omega (arith, e))) i r at)

  pub schemas_keep : (i : ℕ) (r : NamespaceRow) → Meets schema_rules cat cat.pg_namespace → slice_get cat.pg_namespace i ≡ Some r → get (opening_ids cat).ids (object (key.Schema r.nspname)) ≡ Some r.oid
  schemas_keep i r meets at =
      later (object (key.Schema r.nspname)) r.oid
      (all_named schema_rules cat cat.pg_namespace meets (λ r. r.oid) (λ r. r.nspname) (λ n. object (key.Schema n)) (λ r. refl) (λ r. refl) schema_name_of databases_given (λ q. free_before_schemas (object (key.Schema q.nspname)) q.oid (λ e. omega (arith, e)) (λ e. omega (arith, e)) (λ e. omega (arith, e))) i r at)
