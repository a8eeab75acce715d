-- The rights that an item of a list of rights gives, and those of a new object.
use Rattle.std.specs.Prelude.{ℕ, Bool, ◌&&◌, ◌==◌, not, List}
use Rattle.std.specs.List.{list_any}
use Rattle.acl_text.specs.declared.rights.Privilege.{Privilege}
use Rattle.acl_text.specs.declared.rights.Privilege.TheVariants.{Insert, Select, Update, Delete, Truncate, References, Trigger, Usage, Create}
use Rattle.acl_text.specs.declared.rights.Right.{Right}
use Rattle.cat_model.specs.declared.grant.Rights.{Rights}
use Rattle.cat_model.specs.declared.holder.Item.{Item}
use Rattle.cat_model.specs.Grants.{no_rights, table_rights, sequence_rights, schema_rights, type_rights, rights_less, has_rights}
use Rattle.cat_names.specs.declared.rights.GrantKind.{GrantKind}
use Rattle.cat_names.specs.declared.rights.GrantKind.TheVariants as on

-- all rights that there are on an object of a kind, which its owner has from the start
abbrev pub all_rights : GrantKind → Rights
all_rights on.Table = table_rights
all_rights on.Sequence = sequence_rights
all_rights on.Schema = schema_rights
all_rights on.Type = type_rights

-- the rights that every role has from the start
abbrev pub public_rights : GrantKind → Rights
public_rights on.Table = no_rights
public_rights on.Sequence = no_rights
public_rights on.Schema = no_rights
public_rights on.Type = type_rights

-- the place of a right among all
abbrev pub code : Privilege → ℕ
code Insert = 0
code Select = 1
code Update = 2
code Delete = 3
code Truncate = 4
code References = 5
code Trigger = 6
code Usage = 7
code Create = 8

-- whether a right is among these, and whether it is with its option
abbrev pub is_held : List Right → Privilege → Bool
is_held rights privilege = list_any (λ r. code r.privilege == code privilege) rights

abbrev pub is_optional : List Right → Privilege → Bool
is_optional rights privilege = list_any (λ r. code r.privilege == code privilege && r.grant_option) rights

abbrev pub rights_by : (Privilege → Bool) → Rights
rights_by has = record {
  select = has Select;
  usage = has Usage;
  insert = has Insert;
  references = has References;
  delete = has Delete;
  trigger = has Trigger;
  truncate = has Truncate;
  update = has Update;
  create = has Create;
}

-- the rights that are listed, and those of them that may be granted on
abbrev pub item_of : List Right → Item
item_of rights = record { rights = rights_by (is_held rights); options = rights_by (is_optional rights) }

abbrev pub no_item : Item
no_item = record { rights = no_rights; options = no_rights }

-- whether these are the given rights, and none may be granted on
abbrev pub is_plain : Item → Rights → Bool
is_plain item rights =
    not (has_rights (rights_less rights item.rights))
    && (not (has_rights (rights_less item.rights rights))
    && not (has_rights item.options))
