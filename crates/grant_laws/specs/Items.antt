-- Items of a list of rights that give rights: what they give, and to whom.
use Rattle.std.specs.Prelude.{◌≡◌, true, false, codes}
use Rattle.std.specs.List.{list_all}
use Rattle.std.specs.Option.{ForSome}
use Rattle.acl_text.specs.declared.list.AclItem.{AclItem}
use Rattle.copy_text.specs.Texts.{IsName}
use Rattle.cat_model.specs.declared.grant.Granted.{Granted}
use Rattle.cat_model.specs.declared.grant.Granted.TheVariants as granted
use Rattle.cat_model.specs.Lexemes.{same_text}
use Rattle.cat_model.specs.Values.{Bytes}
use Rattle.cat_names.specs.declared.rights.GrantKind.{GrantKind}
use Rattle.cat_names.specs.declared.rights.GrantKind.TheVariants as on
use Rattle.cat_names.specs.Rights.{has_privilege, is_empty_list}

-- the kind of what rights are granted on
abbrev pub kind_on : Granted → GrantKind
kind_on (granted.Table q) = on.Table
kind_on (granted.Sequence q) = on.Sequence
kind_on (granted.Schema n) = on.Schema
kind_on (granted.Type q) = on.Type

-- the name `public` is no role's
abbrev pub IsRoleName : Bytes → Type 0
IsRoleName name = IsName name × (same_text name (codes "public") ≡ false)

-- where it gives rights, they are such as the kind has, and it gives them to PUBLIC or to a role
abbrev pub IsItem : GrantKind → AclItem → Type 0
IsItem kind item = is_empty_list item.rights ≡ false → (list_all (λ r. has_privilege kind r.privilege) item.rights ≡ true) × ForSome item.grantee IsRoleName
