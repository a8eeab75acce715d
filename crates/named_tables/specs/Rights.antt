-- The list of rights that grants are written as: null exactly for those of a new object, else an item a holder, whose
-- rights stand in the order of their letters and were granted by the owner.
use Rattle.std.specs.Prelude.{◌≡◌, ◌≢◌, Bool, List, [], ◌∷◌, ◌++◌, map, Option, Some, None, if◌then◌else◌}
use Rattle.std.specs.FinMap.{entries}
use Rattle.acl_text.specs.declared.rights.Privilege.{Privilege}
use Rattle.acl_text.specs.declared.rights.Privilege.TheVariants.{Insert, Select, Update, Delete, Truncate, References, Trigger, Usage, Create}
use Rattle.acl_text.specs.declared.rights.Right.{Right}
use Rattle.acl_text.specs.declared.list.AclItem.{AclItem}
use Rattle.cat_model.specs.declared.holder.Holder.{Holder}
use Rattle.cat_model.specs.declared.holder.Holder.TheVariants.{Owner as OWNER, Public as PUBLIC, Role as ROLE}
use Rattle.cat_model.specs.declared.holder.Item.{Item}
use Rattle.cat_model.specs.Values.{Bytes, Grants}
use Rattle.cat_names.specs.declared.rights.GrantKind.{GrantKind}
use Rattle.cat_names.specs.Grants.{default_grants}

-- a right, where there is one, with or without its option
abbrev pub right : Bool → Bool → Privilege → List Right
right has option letter = if has then record { privilege = letter; grant_option = option } ∷ [] else []

abbrev pub rights_list : Item → List Right
rights_list i =
    right i.rights.insert i.options.insert Insert
    ++ right i.rights.select i.options.select Select
    ++ right i.rights.update i.options.update Update
    ++ right i.rights.delete i.options.delete Delete
    ++ right i.rights.truncate i.options.truncate Truncate
    ++ right i.rights.references i.options.references References
    ++ right i.rights.trigger i.options.trigger Trigger
    ++ right i.rights.usage i.options.usage Usage
    ++ right i.rights.create i.options.create Create

abbrev pub grantee : Bytes → Holder → Option Bytes
grantee owner OWNER = Some owner
grantee owner PUBLIC = None
grantee owner (ROLE name) = Some name

abbrev pub acl_item : Bytes → Holder × Item → AclItem
acl_item owner e = record { grantee = grantee owner e.0; rights = rights_list e.1; grantor = owner }

abbrev pub acl_items : Bytes → Grants → List AclItem
acl_items owner grants = map (acl_item owner) (entries grants)

abbrev pub IsAcl : GrantKind → Bytes → Grants → Option (List AclItem) → Type 0
IsAcl kind owner grants None = grants ≡ default_grants kind
IsAcl kind owner grants (Some items) = (grants ≢ default_grants kind) × (items ≡ acl_items owner grants)
