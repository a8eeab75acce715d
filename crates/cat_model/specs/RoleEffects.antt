-- The effects of statements about roles and databases.
use Rattle.std.specs.Prelude.{Bool, true, false, not, ℤ, negsuc, List, [], ◌∷◌, Option, Some, None, codes}
use Rattle.std.specs.Option.{unwrap_or}
use Rattle.cat_model.specs.declared.key.Key.TheVariants as key
use Rattle.cat_model.specs.declared.object.Object.TheVariants as object
use Rattle.cat_model.specs.declared.cause.Cause.TheVariants as cause
use Rattle.cat_model.specs.declared.table.RoleChanges.{RoleChanges}
use Rattle.cat_model.specs.declared.constraint.Encoding.TheVariants as encoding
use Rattle.cat_model.specs.Values as value
use Rattle.cat_model.specs.Values.{Bytes, Role, Membership}
use Rattle.cat_model.specs.Lexemes.{same_text}
use Rattle.cat_model.specs.Trees.{Tree, sets}
use Rattle.cat_model.specs.Conditions.{needs, free, needs_role, check}

-- it inherits, and has nothing else
abbrev pub new_role : Role
new_role = record { superuser = false; inherit = true; create_role = false; create_db = false; login = false; replication = false; bypass_rls = false; limit = negsuc 0; password = None; valid_until = None }

abbrev pub create_role : Bytes → Tree
create_role name =
    free (key.Role name)
    (check (not (same_text name (codes "public"))) (cause.Exists (key.Role name))
    (sets ((key.Role name, Some (value.role new_role)) ∷ [])))

abbrev pub or_as_before : {A : Type 0} → Option A → Option A → Option A
or_as_before (Some new) old = Some new
or_as_before None old = old

abbrev pub role_changed : RoleChanges → Role → Role
role_changed c r = record {
  superuser = unwrap_or c.superuser r.superuser;
  inherit = unwrap_or c.inherit r.inherit;
  create_role = unwrap_or c.create_role r.create_role;
  create_db = unwrap_or c.create_db r.create_db;
  login = unwrap_or c.login r.login;
  replication = unwrap_or c.replication r.replication;
  bypass_rls = unwrap_or c.bypass_rls r.bypass_rls;
  limit = unwrap_or c.limit r.limit;
  password = or_as_before c.password r.password;
  valid_until = or_as_before c.valid_until r.valid_until;
}

abbrev pub alter_role : Bytes → RoleChanges → Tree
alter_role name changes = needs_role name (λ r. sets ((key.Role name, Some (value.role (role_changed changes r))) ∷ []))

abbrev pub needs_grantor : Option Bytes → Tree → Tree
needs_grantor None next = next
needs_grantor (Some name) next = needs (key.Role name) next

-- the grantor is the boot role where none is given; where INHERIT is left out the member's own attribute stands for it
abbrev pub grant_role : Bytes → Bytes → Bytes → Option Bytes → Bool → Option Bool → Bool → Tree
grant_role boot role member grantor admin inherit may_set =
    needs (key.Role role)
    (needs_role member (λ r.
    needs_grantor grantor
    (sets ((key.Member role member (unwrap_or grantor boot), Some (value.member (record { admin = admin; inherit = unwrap_or inherit r.inherit; «set» = may_set }))) ∷ []))))

abbrev pub create_database : Bytes → Bytes → Tree
create_database boot name =
    free (key.Database name)
    (sets ((key.Database name, Some (value.database encoding.Utf8)) ∷ (key.Owner (object.Database name), Some (value.owner boot)) ∷ []))
