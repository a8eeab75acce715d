-- Worked examples: texts of GRANT and REVOKE with their statements, or their first fault.
use Rattle.std.specs.Prelude.{◌≡◌, true, false, [], ◌∷◌, Some, None, Ok, Err, codes}
use Rattle.cat_model.specs.{declared.object.QName.QName, Grants.no_rights, Grants.table_rights, Grants.type_rights}
use Rattle.cat_model.specs.declared.grant.Granted.TheVariants as on
use Rattle.cat_model.specs.declared.grant.Grantee.TheVariants as grantees
use Rattle.cat_model.specs.declared.stmt.Stmt.TheVariants as stmt
use Rattle.ddl_scripts.specs.{declared.fault.DdlFault.TheVariants.Unknown, declared.fault.DdlFault.TheVariants.LongName, Reading.statements_of, Examples.located}

abbrev pub a_t : QName
a_t = record { schema = codes "a"; name = codes "t" }

pub record RightsExamples : Type 0 where
  pub all : statements_of (codes "GRANT ALL ON TABLE a.t TO b;") ≡ Ok (located (stmt.Grant (on.Table a_t) table_rights (grantees.Role (codes "b")) false) 0 28 ∷ [])
  -- all of a kind's rights are ALL
  pub each : statements_of (codes "grant update,Select,Insert,references,delete,trigger,truncate on table a.t to b with grant option;") ≡ Ok (located (stmt.Grant (on.Table a_t) table_rights (grantees.Role (codes "b")) true) 0 98 ∷ [])
  -- repeats add nothing, and a quoted name is taken as it is
  pub some : statements_of (codes "GRANT SELECT, USAGE,SELECT ON SEQUENCE a.t TO \"PUBLIC\";") ≡ Ok (located (stmt.Grant (on.Sequence a_t) (record no_rights { select = true; usage = true }) (grantees.Role (codes "PUBLIC")) false) 0 55 ∷ [])
  pub public : statements_of (codes "GRANT USAGE ON SCHEMA a TO \"public\";") ≡ Ok (located (stmt.Grant (on.Schema (codes "a")) (record no_rights { usage = true }) grantees.Public false) 0 36 ∷ [])
  pub revoked : statements_of (codes "REVOKE USAGE ON TYPE a.t FROM Public;") ≡ Ok (located (stmt.Revoke (on.Type a_t) type_rights grantees.Public) 0 37 ∷ [])
  -- no kind has both, or the kind hasn't the right
  pub no_kind : statements_of (codes "GRANT SELECT, CREATE ON SCHEMA a TO b;") ≡ Err (Unknown 14)
  pub other_kind : statements_of (codes "GRANT USAGE ON TABLE a.t TO b;") ≡ Err (Unknown 15)
  pub privileges : statements_of (codes "GRANT ALL PRIVILEGES ON TABLE a.t TO b;") ≡ Err (Unknown 10)
  pub role_revoked : statements_of (codes "REVOKE b FROM c;") ≡ Err (Unknown 7)
  -- options that are left out
  pub role : statements_of (codes "GRANT a TO b;") ≡ Ok (located (stmt.GrantRole (codes "a") (codes "b") None false None true) 0 13 ∷ [])
  pub options : statements_of (codes "GRANT a TO b WITH ADMIN OPTION, INHERIT FALSE, SET FALSE GRANTED BY c;") ≡ Ok (located (stmt.GrantRole (codes "a") (codes "b") (Some (codes "c")) true (Some false) false) 0 70 ∷ [])
  -- a role may have the name of a right
  pub named_select : statements_of (codes "GRANT select TO b WITH INHERIT TRUE;") ≡ Ok (located (stmt.GrantRole (codes "select") (codes "b") None false (Some true) true) 0 36 ∷ [])
  pub quoted_right : statements_of (codes "GRANT \"select\" ON TABLE a.t TO b;") ≡ Err (Unknown 15)
  -- options stand in their order, one at least
  pub order : statements_of (codes "GRANT a TO b WITH SET TRUE, ADMIN FALSE;") ≡ Err (Unknown 26)
  pub no_option : statements_of (codes "GRANT a TO b WITH;") ≡ Err (Unknown 17)
  pub long : statements_of (codes "GRANT aaaaaaaaaaaaaaaaaaaaaaaaaaaaaaaaaaaaaaaaaaaaaaaaaaaaaaaaaaaaaaaa TO b;") ≡ Err (LongName 6)
