-- The conditions of pg_authid, pg_auth_members and pg_database.
use Rattle.std.specs.Prelude.{ℕ, pos, Bool, true, false, not, ◌&&◌, [], Option, Some, None, codes, if◌then◌else◌}
use Rattle.std.specs.List.{list_any}
use Rattle.cat_rows.specs.declared.catalogue.Catalogue.{Catalogue}
use Rattle.cat_rows.specs.declared.roles.AuthidRow.{AuthidRow}
use Rattle.cat_rows.specs.declared.roles.AuthMembersRow.{AuthMembersRow}
use Rattle.cat_rows.specs.declared.roles.DatabaseRow.{DatabaseRow}
use Rattle.cat_model.specs.declared.words.What.{What}
use Rattle.cat_model.specs.declared.words.What.TheVariants as what
use Rattle.cat_model.specs.Lexemes.{same_text}
use Rattle.cat_model.specs.Values.{Bytes}
use Rattle.cat_names.specs.Lookups.{boot_oid, is_role}
use Rattle.cat_book.specs.Rules.{Rules, named}

-- ---- pg_authid

-- `public` stands for all roles and is the name of none
abbrev pub is_public : Bytes → Bool
is_public name = same_text name (codes "public")

-- oids and names are distinct, `public` is no name, and the boot role is there
abbrev pub role_rules : Rules Catalogue AuthidRow
role_rules = record {
  keys = λ row. named row.oid row.rolname;
  unmet = λ cat row. record { dangles = false; is_bad = is_public row.rolname; left_out = None };
  needed = λ cat. is_role cat.pg_authid boot_oid;
}

-- ---- pg_auth_members

abbrev pub are_roles : Catalogue → AuthMembersRow → Bool
are_roles cat row = is_role cat.pg_authid row.roleid && is_role cat.pg_authid row.member && is_role cat.pg_authid row.grantor

-- a role has a member only once by a grantor, and the three are roles
abbrev pub member_rules : Rules Catalogue AuthMembersRow
member_rules = record {
  keys = λ row. record { oid = Some row.oid; name = Some (row.roleid, row.member, pos row.grantor, []); place = None; is_marked = false };
  unmet = λ cat row. record { dangles = not (are_roles cat row); is_bad = false; left_out = None };
  needed = λ cat. true;
}

-- ---- pg_database

-- the one encoding
abbrev pub encoding_left_out : Bytes → Option What
encoding_left_out encoding = if same_text encoding (codes "UTF8") then None else Some what.Encoding

-- oids and names are distinct, the owner is a role, one is the current one, and the encoding is UTF8
abbrev pub database_rules : Rules Catalogue DatabaseRow
database_rules = record {
  keys = λ row. record { oid = Some row.oid; name = Some (0, 0, pos 0, row.datname); place = None; is_marked = row.datcurrent };
  unmet = λ cat row. record { dangles = not (is_role cat.pg_authid row.datdba); is_bad = false; left_out = encoding_left_out row.encoding };
  needed = λ cat. list_any (λ d. d.datcurrent) cat.pg_database;
}
