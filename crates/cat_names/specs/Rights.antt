-- What is wrong with a list of rights. An item without rights gives nothing, and its names aren't tried.
-- https://www.postgresql.org/docs/16/ddl-priv.html
use Rattle.std.specs.Prelude.{Bool, true, false, not, ◌||◌, ◌&&◌, List, [], ◌∷◌, ◌++◌, map, Option, Some, None, if◌then◌else◌}
use Rattle.std.specs.List.{list_any, list_all, filter}
use Rattle.std.specs.declared.cmp.Ordering.{Ordering}
use Rattle.std.specs.Option.{option_cmp}
use Rattle.acl_text.specs.declared.rights.Privilege.{Privilege}
use Rattle.acl_text.specs.declared.rights.Privilege.TheVariants.{Select, Update, Usage, Create}
use Rattle.acl_text.specs.declared.list.AclItem.{AclItem}
use Rattle.cat_rows.specs.declared.roles.AuthidRow.{AuthidRow}
use Rattle.cat_model.specs.declared.words.What.{What}
use Rattle.cat_model.specs.declared.words.What.TheVariants as what
use Rattle.cat_model.specs.Values.{Bytes, bytes_cmp}
use Rattle.cat_names.specs.declared.rights.GrantKind.{GrantKind}
use Rattle.cat_names.specs.declared.rights.GrantKind.TheVariants as on
use Rattle.cat_model.specs.Lexemes.{same_text}
use Rattle.cat_names.specs.Lookups.{has_key, is_role_name}

-- the rights that there are on an object of a kind
abbrev pub has_privilege : GrantKind → Privilege → Bool
has_privilege on.Table Usage = false
has_privilege on.Table Create = false
has_privilege on.Table _ = true
has_privilege on.Sequence Select = true
has_privilege on.Sequence Update = true
has_privilege on.Sequence Usage = true
has_privilege on.Sequence _ = false
has_privilege on.Schema Usage = true
has_privilege on.Schema Create = true
has_privilege on.Schema _ = false
has_privilege on.Type Usage = true
has_privilege on.Type _ = false

abbrev pub is_empty_list : {A : Type 0} → List A → Bool
is_empty_list [] = true
is_empty_list (x ∷ xs) = false

-- PUBLIC, or a role of that name
abbrev pub is_grantee : List AuthidRow → Option Bytes → Bool
is_grantee roles None = true
is_grantee roles (Some name) = is_role_name roles name

-- PUBLIC comes before the roles
abbrev pub grantee_cmp : Option Bytes → Option Bytes → Ordering
grantee_cmp = option_cmp bytes_cmp

-- the items that give rights
abbrev pub giving : List AclItem → List AclItem
giving items = filter (λ i. not (is_empty_list i.rights)) items

-- An item is bad where its kind of object hasn't one of its rights, where one of its names is no role's, and where an
-- earlier item has the same grantee.
abbrev pub is_bad_item : GrantKind → List AuthidRow → List AclItem → AclItem → Bool
is_bad_item on roles before item =
    not (list_all (λ r. has_privilege on r.privilege) item.rights)
    || (not (is_grantee roles item.grantee && is_role_name roles item.grantor)
    || has_key grantee_cmp (map (λ i. i.grantee) before) item.grantee)

-- whether one of these items is bad, behind those before them
unfoldable pub has_bad_item : GrantKind → List AuthidRow → List AclItem → List AclItem → Bool
has_bad_item on roles before [] = false
has_bad_item on roles before (item ∷ items) = is_bad_item on roles before item || has_bad_item on roles (before ++ item ∷ []) items

-- null, the default rights, is never bad
abbrev pub is_bad_acl : GrantKind → List AuthidRow → Option (List AclItem) → Bool
is_bad_acl on roles None = false
is_bad_acl on roles (Some items) = has_bad_item on roles [] (giving items)

-- whether an item gives rights that another role than the owner granted
abbrev pub is_others_item : Bytes → AclItem → Bool
is_others_item owner item = not (is_empty_list item.rights) && not (same_text owner item.grantor)

-- whether another role than the owner granted a right
abbrev pub is_by_other : Option Bytes → Option (List AclItem) → Bool
is_by_other None acl = false
is_by_other (Some owner) None = false
is_by_other (Some owner) (Some items) = list_any (is_others_item owner) items

-- grants by others than the owner are left out
abbrev pub other_left_out : Bool → Option What
other_left_out by_other = if by_other then Some what.GrantByOther else None
