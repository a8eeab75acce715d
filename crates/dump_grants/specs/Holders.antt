-- Who has rights by a list of rights: the owner, every role, and other roles by their names.
use Rattle.std.specs.Prelude.{Bool, true, false, ◌&&◌, not, List, filter_map, Option, Some, None, if◌then◌else◌}
use Rattle.std.specs.List.{find}
use Rattle.std.specs.Ordering.{is_lt}
use Rattle.acl_text.specs.declared.list.AclItem.{AclItem}
use Rattle.cat_model.specs.declared.holder.Item.{Item}
use Rattle.cat_model.specs.Lexemes.{same_text}
use Rattle.cat_model.specs.Values.{Bytes, bytes_cmp}
use Rattle.cat_names.specs.Rights.{is_empty_list}
use Rattle.dep_sort.specs.FirstOrder.{in_order}
use Rattle.dump_grants.specs.Held.{item_of, no_item}

-- whether an item gives rights, to this role, to every role
abbrev pub gives : AclItem → Bool
gives item = not (is_empty_list item.rights)

abbrev pub is_name : Bytes → Option Bytes → Bool
is_name owner None = false
is_name owner (Some name) = same_text owner name

abbrev pub is_of_role : Bytes → AclItem → Bool
is_of_role owner item = is_name owner item.grantee && gives item

abbrev pub is_nobody : Option Bytes → Bool
is_nobody None = true
is_nobody (Some name) = false

abbrev pub is_of_public : AclItem → Bool
is_of_public item = is_nobody item.grantee && gives item

abbrev pub given : Option AclItem → Item
given None = no_item
given (Some item) = item_of item.rights

-- what the owner has, and what every role has
abbrev pub owner_item : Bytes → List AclItem → Item
owner_item owner items = given (find (is_of_role owner) items)

abbrev pub public_item : List AclItem → Item
public_item items = given (find is_of_public items)

-- what an item gives to a role that isn't the owner
abbrev pub to_other : Bytes → AclItem → Option Bytes → Option (Bytes × Item)
to_other owner item None = None
to_other owner item (Some name) = if gives item && not (same_text owner name) then Some (name, item_of item.rights) else None

abbrev pub role_item : Bytes → AclItem → Option (Bytes × Item)
role_item owner item = to_other owner item item.grantee

abbrev pub name_less : Bytes × Item → Bytes × Item → Bool
name_less a b = is_lt (bytes_cmp a.0 b.0)

-- the other roles by their names
abbrev pub role_items : Bytes → List AclItem → List (Bytes × Item)
role_items owner items = in_order name_less (filter_map (role_item owner) items)
