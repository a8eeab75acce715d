-- Roles and lists of rights of a well-formed catalogue: who owns and who is granted rights is a role, and the rights are such
-- as the kind of object has.
use Rattle.std.proofs.Common.{◌≡◌, ℕ, Bool, true, false, not, cond, ◌&&◌, ◌||◌, List, [], ◌∷◌, ◌++◌, map, Option, Some, None, refl, sym, ap, subst, ◌∙◌, inl, inr}
use Rattle.std.specs.List.{AllByRecursion, list_all}
use Rattle.std.specs.Option.{ForSome}
use Rattle.std.specs.Ordering.{eq_by_cmp}
use Rattle.std.proofs.lemmas.Bool.{cases_Bool, false≢true, and_parts, or_cases, or_parts}
use Rattle.std.proofs.lemmas.Map.Lookups.{exact_bytes}
use Rattle.std.proofs.lemmas.Map.Views.{tells_apart}
use Rattle.acl_text.specs.declared.list.AclItem.{AclItem}
use Rattle.cat_model.specs.Values.{Bytes, bytes_cmp}
use Rattle.cat_rows.specs.declared.catalogue.Catalogue.{Catalogue}
use Rattle.cat_rows.specs.declared.roles.AuthidRow.{AuthidRow}
use Rattle.cat_rows.specs.declared.table.SysTable.TheVariants as table
use Rattle.cat_rows.specs.RowCells.{authid_cells}
use Rattle.cat_names.specs.declared.rights.GrantKind.{GrantKind}
use Rattle.cat_names.specs.Lookups.{same_oid, has_key, role_name, is_role_name}
use Rattle.cat_names.specs.Rights.{has_privilege, is_empty_list, is_grantee, grantee_cmp, giving, is_bad_item, has_bad_item, is_bad_acl}
use Rattle.plain_tables.specs.Roles.{is_public}
use Rattle.well_formed.specs.Formed.{IsWellFormed}
use Rattle.grant_laws.specs.Items.{IsRoleName, IsItem}
use Rattle.stmt_laws.specs.Named.{HoldsCells}
use Rattle.stmt_laws.proofs.Lists.{Known}
use Rattle.stmt_laws.proofs.Rows.{IsOf, rows_hold}
use Rattle.dump_script_laws.proofs.Lists.{each_all, two_have}

-- ---- roles

abbrev pub AreRoles : List AuthidRow → Type 0
AreRoles roles = AllByRecursion (λ r. IsRoleName r.rolname) roles

pub roles_are : (cat : Catalogue) → HoldsCells cat → IsWellFormed cat → AreRoles cat.pg_authid
roles_are cat holds formed =
    two_have (IsOf table.PgAuthid authid_cells) (λ r. is_public r.rolname ≡ false) (λ r. IsRoleName r.rolname) cat.pg_authid (λ r row other. (row.cells.1.0, other))
    (rows_hold cat holds table.PgAuthid authid_cells cat.pg_authid refl) (each_all (λ r. is_public r.rolname ≡ false) cat.pg_authid formed.roles.texts)

-- the role of an oid
pub role_is : (roles : List AuthidRow) (oid : ℕ) → AreRoles roles → Known IsRoleName (role_name roles oid)
unfolding role_name
role_is [] oid all = tt
role_is (role ∷ roles) oid all = elim (cases_Bool (same_oid oid role.oid)) [ inl is ↦ rw is all.0 | inr isnt ↦ rw isnt (role_is roles oid all.1) ]

named_role : (roles : List AuthidRow) (name : Bytes) → AreRoles roles → is_role_name roles name ≡ true → IsRoleName name
named_role [] name all e = absurd (false≢true e)
named_role (role ∷ roles) name all e = elim (or_cases (eq_by_cmp bytes_cmp name role.rolname) (is_role_name roles name) e) [
  | inl here ↦ subst IsRoleName (sym (tells_apart exact_bytes name role.rolname here)) all.0
  | inr later ↦ named_role roles name all.1 later
]

-- ---- lists of rights

-- a list of rights, or null, has items that give such rights as the kind has to roles
abbrev pub IsGoodAcl : GrantKind → Option (List AclItem) → Type 0
IsGoodAcl kind acl = ForSome acl (λ items. AllByRecursion (IsItem kind) items)

pub shown : (b : Bool) → not b ≡ false → b ≡ true
shown true e = refl
shown false e = absurd cc

item_is : (kind : GrantKind) (roles : List AuthidRow) → AreRoles roles → (before : List AclItem) (item : AclItem) → is_bad_item kind roles before item ≡ false → IsItem kind item
item_is kind roles are before item e some =
    let has = list_all (λ r. has_privilege kind r.privilege) item.rights in
    let known = is_grantee roles item.grantee && is_role_name roles item.grantor in
    let first = or_parts (not has) (not known || has_key grantee_cmp (map (λ i. i.grantee) before) item.grantee) e in
    let second = or_parts (not known) (has_key grantee_cmp (map (λ i. i.grantee) before) item.grantee) first.1 in
    let grantee = (and_parts (is_grantee roles item.grantee) (is_role_name roles item.grantor) (shown known second.0)).0 in
    (shown has first.0, λ name f. named_role roles name are (sym (ap (is_grantee roles) f) ∙ grantee))

items_are : (kind : GrantKind) (roles : List AuthidRow) → AreRoles roles → (before items : List AclItem) → has_bad_item kind roles before (giving items) ≡ false → AllByRecursion (IsItem kind) items
unfolding has_bad_item
items_are kind roles are before [] e = tt
items_are kind roles are before (item ∷ items) e = by (is_empty_list item.rights) refl e (λ b f. items_are kind roles are b items f)
  where
    by : (empty : Bool) → is_empty_list item.rights ≡ empty → has_bad_item kind roles before (cond (not empty) (item ∷ giving items) (giving items)) ≡ false
        → ((b : List AclItem) → has_bad_item kind roles b (giving items) ≡ false → AllByRecursion (IsItem kind) items) → AllByRecursion (IsItem kind) (item ∷ items)
    by true is f later = ((λ no. absurd (false≢true (sym no ∙ is))), later before f)
    by false is f later =
        let h = or_parts (is_bad_item kind roles before item) (has_bad_item kind roles (before ++ item ∷ []) (giving items)) f in
        (item_is kind roles are before item h.0, later (before ++ item ∷ []) h.1)

pub acl_is : (kind : GrantKind) (roles : List AuthidRow) → AreRoles roles → (acl : Option (List AclItem)) → is_bad_acl kind roles acl ≡ false → IsGoodAcl kind acl
acl_is kind roles are None e = λ items f. absurd cc
acl_is kind roles are (Some list) e = λ items f. let same : list ≡ items = cc f in subst (λ (x : List AclItem). AllByRecursion (IsItem kind) x) same (items_are kind roles are [] list e)
