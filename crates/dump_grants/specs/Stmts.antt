-- The statements that make the grants on a new object those of a list of rights.
-- The owner has all rights of a new object, and every role may use a new type. Where the owner's rights differ, they are taken
-- away and those that are left are granted; where every role lacks a right, it is taken away; then what others have is
-- granted, first without the option to grant it on, then with it.
use Rattle.std.specs.Prelude.{Bool, true, false, ◌&&◌, List, [], ◌∷◌, ◌++◌, Option, Some, None, if◌then◌else◌}
use Rattle.std.specs.List.{flat_map}
use Rattle.acl_text.specs.declared.list.AclItem.{AclItem}
use Rattle.cat_model.specs.declared.grant.Granted.{Granted}
use Rattle.cat_model.specs.declared.grant.Grantee.{Grantee}
use Rattle.cat_model.specs.declared.grant.Grantee.TheVariants as grantee
use Rattle.cat_model.specs.declared.grant.Rights.{Rights}
use Rattle.cat_model.specs.declared.holder.Item.{Item}
use Rattle.cat_model.specs.declared.stmt.Stmt.{Stmt}
use Rattle.cat_model.specs.declared.stmt.Stmt.TheVariants as stmt
use Rattle.cat_model.specs.Grants.{rights_less, has_rights}
use Rattle.cat_model.specs.Values.{Bytes}
use Rattle.cat_names.specs.declared.rights.GrantKind.{GrantKind}
use Rattle.cat_names.specs.Rights.{is_empty_list}
use Rattle.ddl_write.specs.Respelling.{spelling}
use Rattle.dump_grants.specs.Held.{all_rights, public_rights, is_plain}
use Rattle.dump_grants.specs.Holders.{owner_item, public_item, role_items}

-- a grant of rights, where there are some
abbrev pub granting : Granted → Rights → Grantee → Bool → List Stmt
granting object rights who option = if has_rights rights then stmt.Grant object rights who option ∷ [] else []

-- what one has: first without the option, then with it
abbrev pub item_stmts : Granted → Grantee → Item → List Stmt
item_stmts object who item = granting object (rights_less item.rights item.options) who false ++ granting object item.options who true

abbrev pub owner_stmts : Granted → Rights → Bytes → Item → List Stmt
owner_stmts object rights owner item =
    if is_plain item rights then []
    else stmt.Revoke object rights (grantee.Role owner) ∷ item_stmts object (grantee.Role owner) item

abbrev pub lacking : Granted → Rights → Item → List Stmt
lacking object rights item = if has_rights (rights_less rights item.rights) then stmt.Revoke object rights grantee.Public ∷ [] else []

abbrev pub public_stmts : Granted → Rights → Item → List Stmt
public_stmts object rights item = lacking object rights item ++ item_stmts object grantee.Public item

abbrev pub role_stmts : Granted → List (Bytes × Item) → List Stmt
role_stmts object roles = flat_map (λ r. item_stmts object (grantee.Role r.0) r.1) roles

-- those who have rights, all together
abbrev pub all_stmts : GrantKind → Granted → Bytes → List AclItem → List Stmt
all_stmts kind object owner items =
    owner_stmts object (all_rights kind) owner (owner_item owner items)
    ++ public_stmts object (public_rights kind) (public_item items)
    ++ role_stmts object (role_items owner items)

-- whether the grants are those of a new object
abbrev pub are_default : GrantKind → Bytes → List AclItem → Bool
are_default kind owner items =
    is_plain (owner_item owner items) (all_rights kind)
    && (is_plain (public_item items) (public_rights kind)
    && is_empty_list (role_items owner items))

-- the statements for a list of rights; none where the grants are those of a new object, as null stands for
unfoldable pub grant_stmts : GrantKind → Granted → Bytes → Option (List AclItem) → Option (List Stmt)
grant_stmts kind object owner None = None
grant_stmts kind object owner (Some items) = if are_default kind owner items then None else Some (all_stmts kind object owner items)

-- statements one after another, each in its one spelling
abbrev pub texts : List Stmt → Bytes
texts stmts = flat_map spelling stmts
