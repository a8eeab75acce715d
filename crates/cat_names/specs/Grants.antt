-- The grants that a list of rights stands for: by its holders, without the grantors. Null is the default, and the
-- owner's item stands under OWNER, whoever the owner is.
use Rattle.std.specs.Prelude.{true, List, [], ◌∷◌, map, Option, Some, None, if◌then◌else◌}
use Rattle.std.specs.FinMap.{from_entries}
use Rattle.acl_text.specs.declared.rights.Privilege.{Privilege}
use Rattle.acl_text.specs.declared.rights.Privilege.TheVariants.{Insert, Select, Update, Delete, Truncate, References, Trigger, Usage, Create}
use Rattle.acl_text.specs.declared.rights.Right.{Right}
use Rattle.acl_text.specs.declared.list.AclItem.{AclItem}
use Rattle.cat_model.specs.declared.grant.Rights.{Rights}
use Rattle.cat_model.specs.Grants.{no_rights, table_rights, sequence_rights, schema_rights, owner_only, type_grants, both_rights}
use Rattle.cat_model.specs.declared.holder.Holder.{Holder}
use Rattle.cat_model.specs.declared.holder.Item.{Item}
use Rattle.cat_model.specs.declared.holder.Holder.TheVariants.{Owner as OWNER, Public as PUBLIC, Role as ROLE}
use Rattle.cat_model.specs.Values.{Bytes, Grants}
use Rattle.cat_names.specs.declared.rights.GrantKind.{GrantKind}
use Rattle.cat_names.specs.declared.rights.GrantKind.TheVariants as on
use Rattle.cat_model.specs.Lexemes.{same_text}
use Rattle.cat_names.specs.Rights.{giving}

-- the one right of a letter
abbrev pub one_right : Privilege → Rights
one_right Insert = record no_rights { insert = true }
one_right Select = record no_rights { select = true }
one_right Update = record no_rights { update = true }
one_right Delete = record no_rights { delete = true }
one_right Truncate = record no_rights { truncate = true }
one_right References = record no_rights { references = true }
one_right Trigger = record no_rights { trigger = true }
one_right Usage = record no_rights { usage = true }
one_right Create = record no_rights { create = true }

-- rights that are listed add up
abbrev pub listed_rights : List Right → Rights
listed_rights [] = no_rights
listed_rights (r ∷ rs) = both_rights (one_right r.privilege) (listed_rights rs)

abbrev pub right_option : Right → Rights
right_option r = if r.grant_option then one_right r.privilege else no_rights

-- those of them that have the grant option
abbrev pub listed_options : List Right → Rights
listed_options [] = no_rights
listed_options (r ∷ rs) = both_rights (right_option r) (listed_options rs)

-- under which holder a grantee's rights stand, by the owner's name
abbrev pub holder : Bytes → Option Bytes → Holder
holder owner None = PUBLIC
holder owner (Some name) = if same_text owner name then OWNER else ROLE name

abbrev pub item_of : AclItem → Item
item_of item = record { rights = listed_rights item.rights; options = listed_options item.rights }

-- what a new object of a kind has
abbrev pub default_grants : GrantKind → Grants
default_grants on.Table = owner_only table_rights
default_grants on.Sequence = owner_only sequence_rights
default_grants on.Schema = owner_only schema_rights
default_grants on.Type = type_grants

-- the grants of a list of rights on an object of a kind
unfoldable pub grants_of : GrantKind → Bytes → Option (List AclItem) → Grants
grants_of on owner None = default_grants on
grants_of on owner (Some items) = from_entries (map (λ i. (holder owner i.grantee, item_of i)) (giving items))
