-- The grammar of what changes of a role.
use Rattle.std.specs.Prelude.{ℕ, ℤ, Bool, List, Option, codes}
use Rattle.cat_model.specs.{declared.table.RoleChanges.RoleChanges}
use Rattle.ddl_parts.specs.{Lexemes.is_word, Parts.Part, Parts.seen, Parts.◌▸◌, Leaves.literal, Numbers.whole_number}
use Rattle.ddl_grammar.specs.Choices.{clause, flag, ◌before◌}

-- SUPERUSER, INHERIT and CREATEROLE, and then CREATEDB, LOGIN, REPLICATION and BYPASSRLS
abbrev pub LaterFlags : Type 0
LaterFlags = Option Bool × (Option Bool × (Option Bool × Option Bool))

abbrev pub Flags : Type 0
Flags = Option Bool × (Option Bool × (Option Bool × LaterFlags))

-- each may be left out, in this order
unfoldable pub later_flags : Part LaterFlags
later_flags =
    flag (codes "createdb") (codes "nocreatedb") before (flag (codes "login") (codes "nologin") before (flag (codes "replication") (codes "noreplication")
    before flag (codes "bypassrls") (codes "nobypassrls")))

unfoldable pub role_flags : Part Flags
role_flags =
    flag (codes "superuser") (codes "nosuperuser") before (flag (codes "inherit") (codes "noinherit") before (flag (codes "createrole") (codes "nocreaterole") before later_flags))

-- the connection limit, the password and how long it is valid
abbrev pub Settings : Type 0
Settings = Option ℤ × (Option (List ℕ) × Option (List ℕ))

-- CONNECTION LIMIT number, PASSWORD text and VALID UNTIL text: each may be left out, in this order
unfoldable pub role_settings : Part Settings
role_settings =
    clause (codes "connection") (is_word (codes "limit") ▸ whole_number) before (clause (codes "password") literal before clause (codes "valid") (is_word (codes "until") ▸ literal))

abbrev pub changes_by : Flags × Settings → RoleChanges
changes_by x = record {
  superuser = x.0.0;
  inherit = x.0.1.0;
  create_role = x.0.1.1.0;
  create_db = x.0.1.1.1.0;
  login = x.0.1.1.1.1.0;
  replication = x.0.1.1.1.1.1.0;
  bypass_rls = x.0.1.1.1.1.1.1;
  limit = x.1.0;
  password = x.1.1.0;
  valid_until = x.1.1.1;
}

unfoldable pub role_changes : Part RoleChanges
role_changes = seen changes_by (role_flags before role_settings)
