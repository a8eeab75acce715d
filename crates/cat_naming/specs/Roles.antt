-- What the attributes of a role and a membership's options stand for.
use Rattle.cat_rows.specs.declared.roles.AuthidRow.{AuthidRow}
use Rattle.cat_rows.specs.declared.roles.AuthMembersRow.{AuthMembersRow}
use Rattle.cat_model.specs.declared.value.Role.{Role}
use Rattle.cat_model.specs.declared.value.Membership.{Membership}

-- a role's attributes
abbrev pub role_value : AuthidRow → Role
role_value r = record {
  superuser = r.rolsuper;
  inherit = r.rolinherit;
  create_role = r.rolcreaterole;
  create_db = r.rolcreatedb;
  login = r.rolcanlogin;
  replication = r.rolreplication;
  bypass_rls = r.rolbypassrls;
  limit = r.rolconnlimit;
  password = r.rolpassword;
  valid_until = r.rolvaliduntil;
}

-- what a membership allows
abbrev pub member_value : AuthMembersRow → Membership
member_value m = record { admin = m.admin_option; inherit = m.inherit_option; «set» = m.set_option }
