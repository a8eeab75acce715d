-- Which grants on an object are in order beside the roles that there are.
use Rattle.std.specs.Prelude.{◌≡◌, true, false, Some}
use Rattle.std.specs.FinMap.{get}
use Rattle.cat_rows.specs.declared.roles.AuthidRow.{AuthidRow}
use Rattle.cat_model.specs.declared.grant.Rights.{Rights}
use Rattle.cat_model.specs.declared.holder.Holder.TheVariants.{Role as ROLE}
use Rattle.cat_model.specs.declared.holder.Item.{Item}
use Rattle.cat_model.specs.Grants.{table_rights, sequence_rights, schema_rights, type_rights}
use Rattle.cat_model.specs.Lexemes.{same_text}
use Rattle.cat_model.specs.Values.{Bytes, Grants}
use Rattle.cat_names.specs.declared.rights.GrantKind.{GrantKind}
use Rattle.cat_names.specs.declared.rights.GrantKind.TheVariants as on
use Rattle.cat_names.specs.Lookups.{is_role_name}
use Rattle.cat_sound.specs.Rights.{AreItems, AreWithin}
use Rattle.std.specs.Prelude.{List}

-- the rights that there are on an object of a kind
abbrev pub all_rights : GrantKind → Rights
all_rights on.Table = table_rights
all_rights on.Sequence = sequence_rights
all_rights on.Schema = schema_rights
all_rights on.Type = type_rights

-- Each item gives rights, which are among those of the kind, and has the option of none but these; the holders that are
-- named are roles, and none of them is the owner.
pub record AreGranted (kind : GrantKind) (roles : List AuthidRow) (owner : Bytes) (grants : Grants) : Type 0 where
  pub items : AreItems grants
  pub within : AreWithin grants (all_rights kind)
  pub roles_there : (name : Bytes) (item : Item) → get grants (ROLE name) ≡ Some item → is_role_name roles name ≡ true
  pub others : (name : Bytes) (item : Item) → get grants (ROLE name) ≡ Some item → same_text owner name ≡ false
