-- Worked examples: lists of rights with the statements that give them.
use Rattle.std.specs.Prelude.{◌≡◌, true, false, List, [], ◌∷◌, Option, Some, None, codes}
use Rattle.std.specs.Option.{option_map}
use Rattle.acl_text.specs.declared.list.AclItem.{AclItem}
use Rattle.acl_text.specs.declared.rights.Privilege.{Privilege}
use Rattle.acl_text.specs.declared.rights.Privilege.TheVariants.{Insert, Select, Update, Delete, Truncate, References, Trigger, Usage}
use Rattle.acl_text.specs.declared.rights.Right.{Right}
use Rattle.cat_model.specs.declared.grant.Granted.TheVariants as granted
use Rattle.cat_model.specs.Values.{Bytes}
use Rattle.cat_names.specs.declared.rights.GrantKind.TheVariants as on
use Rattle.dump_grants.specs.Stmts.{grant_stmts, texts}

abbrev pub plain : Privilege → Right
plain p = record { privilege = p; grant_option = false }

abbrev pub with_option : Privilege → Right
with_option p = record { privilege = p; grant_option = true }

abbrev pub by_postgres : Option Bytes → List Right → AclItem
by_postgres who rights = record { grantee = who; rights = rights; grantor = codes "postgres" }

abbrev pub all_of_table : List Right
all_of_table = plain Insert ∷ plain Select ∷ plain Update ∷ plain Delete ∷ plain Truncate ∷ plain References ∷ plain Trigger ∷ []

abbrev pub on_t : List AclItem → Option Bytes
on_t items = option_map texts (grant_stmts on.Table (granted.Table (record { schema = codes "public"; name = codes "t" })) (codes "postgres") (Some items))

abbrev pub on_type : List AclItem → Option Bytes
on_type items = option_map texts (grant_stmts on.Type (granted.Type (record { schema = codes "public"; name = codes "x" })) (codes "postgres") (Some items))

pub record WorkedExamples : Type 0 where
  pub spelled_out : on_t (by_postgres (Some (codes "postgres")) all_of_table ∷ []) ≡ None
  pub one_role : on_t (by_postgres (Some (codes "postgres")) all_of_table ∷ by_postgres (Some (codes "alice")) (with_option Select ∷ plain Update ∷ []) ∷ [])
      ≡ Some (codes "GRANT UPDATE ON TABLE public.t TO alice;\nGRANT SELECT ON TABLE public.t TO alice WITH GRANT OPTION;\n")
  -- the owner has nothing; roles stand by their names
  pub no_owner : on_t (by_postgres (Some (codes "joe")) (plain Select ∷ []) ∷ by_postgres None (plain Select ∷ []) ∷ by_postgres (Some (codes "bob")) (plain Select ∷ []) ∷ [])
      ≡ Some (codes "REVOKE ALL ON TABLE public.t FROM postgres;\nGRANT SELECT ON TABLE public.t TO PUBLIC;\nGRANT SELECT ON TABLE public.t TO bob;\nGRANT SELECT ON TABLE public.t TO joe;\n")
  -- every role may use a new type
  pub type_default : on_type (by_postgres (Some (codes "postgres")) (plain Usage ∷ []) ∷ by_postgres None (plain Usage ∷ []) ∷ []) ≡ None
  pub type_of_owner : on_type (by_postgres (Some (codes "postgres")) (plain Usage ∷ []) ∷ []) ≡ Some (codes "REVOKE ALL ON TYPE public.x FROM PUBLIC;\n")
