-- Runs of statements from the export of an empty cluster, with what each statement says and the keys that are there
-- at the end. The answers were worked out by hand-written rules apart from these definitions.
use Rattle.std.specs.Prelude.{ℕ, Bool, true, false, List, [], ◌∷◌, Option, Some, None, codes, pos, negsuc}
use Rattle.std.specs.FinMap.{from_sorted}
use Rattle.cat_model.specs.declared.object.QName.{QName}
use Rattle.cat_model.specs.declared.object.Object.TheVariants as object
use Rattle.cat_model.specs.declared.key.Key.{Key}
use Rattle.cat_model.specs.declared.key.Key.TheVariants as key
use Rattle.cat_model.specs.declared.cause.Cause.{Cause}
use Rattle.cat_model.specs.declared.cause.Cause.TheVariants as cause
use Rattle.cat_model.specs.declared.stmt.Stmt.{Stmt}
use Rattle.cat_model.specs.declared.stmt.Stmt.TheVariants as stmt
use Rattle.cat_model.specs.declared.grant.Owned.TheVariants as owned
use Rattle.cat_model.specs.declared.grant.Granted.TheVariants as on
use Rattle.cat_model.specs.declared.grant.Commented.TheVariants as commented
use Rattle.cat_model.specs.declared.grant.Grantee.TheVariants as grantee
use Rattle.cat_model.specs.declared.constraint.SequenceKind.TheVariants as sequences
use Rattle.cat_model.specs.declared.type_name.TypeName.TheVariants.{Words, Path}
use Rattle.cat_model.specs.declared.constraint.Encoding.TheVariants as encoding
use Rattle.cat_model.specs.Grants.{owner_only, schema_rights}
use Rattle.cat_model.specs.declared.value.Value.TheVariants as value
use Rattle.cat_model.specs.declared.value.Value.{Value}
use Rattle.cat_model.specs.Values.{Bytes, Named}
use Rattle.model_laws.specs.Examples.{postgres}

abbrev pub at : Bytes → Bytes → QName
at schema name = record { schema = schema; name = name }

-- the role and the database postgres, and the schema public
abbrev pub empty_entries : List (Key × Value)
empty_entries =
    (key.Role postgres, value.Role (record { superuser = true; inherit = true; create_role = true; create_db = true; login = true; replication = true; bypass_rls = true; limit = negsuc 0; password = None; valid_until = None }))
    ∷ (key.Schema (codes "public"), value.Schema)
    ∷ (key.Owner (object.Schema (codes "public")), value.Owner postgres)
    ∷ (key.Owner (object.Database postgres), value.Owner postgres)
    ∷ (key.Acl (object.Schema (codes "public")), value.Grants (owner_only schema_rights))
    ∷ (key.Database postgres, value.Database encoding.Utf8)
    ∷ []

abbrev pub empty_cluster : Named
empty_cluster = from_sorted empty_entries

abbrev pub run_one : List Stmt
run_one =
    stmt.CreateSchema (codes "a")
    ∷ stmt.CreateRole (codes "bob")
    ∷ stmt.CreateRole (codes "eve")
    ∷ stmt.AddUnique (at (codes "public") (codes "v")) (codes "k") ((codes "z") ∷ (codes "y") ∷ []) []
    ∷ stmt.OwnerTo (owned.Type (at (codes "public") (codes "v"))) (codes "eve")
    ∷ stmt.CopyRows (at (codes "public") (codes "m")) [] (49 ∷ 9 ∷ 97 ∷ 32 ∷ 10 ∷ 50 ∷ 9 ∷ 50 ∷ 10 ∷ [])
    ∷ stmt.AddCheck (at (codes "a") (codes "t")) (codes "k") (codes "(VALUE > 0)")
    ∷ stmt.ReplaceView (at (codes "public") (codes "u")) (codes "SELECT 1 FROM a.v, (a.n JOIN public.k ON true)")
    ∷ stmt.AddForeign (at (codes "public") (codes "t")) (codes "k") ((codes "x") ∷ []) (at (codes "a") (codes "u")) ((codes "x") ∷ []) []
    ∷ stmt.CreateTable (at (codes "a") (codes "u")) ((record { name = (codes "z"); type_name = (Words (codes "character(2)")); «default» = None; not_null = false }) ∷ (record { name = (codes "x"); type_name = (Words (codes "integer")); «default» = None; not_null = false }) ∷ []) []
    ∷ stmt.CreateSequence (at (codes "public") (codes "n")) sequences.BigInt (negsuc 0) (negsuc 0) (negsuc 9223372036854775807) (negsuc 0) (pos 1) false
    ∷ stmt.OwnerTo (owned.Database (codes "postgres")) (codes "postgres")
    ∷ stmt.AddDomainCheck (at (codes "a") (codes "m")) (codes "m") (69 ∷ 39 ∷ 97 ∷ 92 ∷ 39 ∷ 98 ∷ 39 ∷ [])
    ∷ stmt.AddUnique (at (codes "a") (codes "u")) (codes "n") ((codes "x") ∷ (codes "y") ∷ []) []
    ∷ stmt.CreateView (at (codes "public") (codes "k")) (codes "SELECT 1 FROM public.k, (a.n JOIN public.v ON true)")
    ∷ stmt.CopyRows (at (codes "a") (codes "u")) ((codes "y") ∷ (codes "x") ∷ []) []
    ∷ stmt.CreateUniqueIndex (at (codes "a") (codes "u")) (codes "n") (codes "btree") (codes "(x) WHERE true")
    ∷ stmt.CreateDomain (at (codes "public") (codes "u")) (Words (codes "text")) true (Some (codes "nextval('public.n'::regclass)")) []
    ∷ stmt.CopyRows (at (codes "a") (codes "u")) ((codes "y") ∷ []) (50 ∷ 10 ∷ [])
    ∷ stmt.OwnedBy (at (codes "public") (codes "n")) (at (codes "a") (codes "u")) (codes "x")
    ∷ stmt.CreateView (at (codes "public") (codes "n")) (codes "SELECT 1 FROM public.n, (public.u JOIN a.u ON true)")
    ∷ stmt.CreateSchema (codes "public")
    ∷ stmt.CopyRows (at (codes "a") (codes "u")) [] (97 ∷ 32 ∷ 10 ∷ [])
    ∷ []

abbrev pub said_one : List (Option Cause)
said_one = None ∷ None ∷ None ∷ Some (cause.Absent (key.Rel (at (codes "public") (codes "v")))) ∷ Some (cause.Absent (key.UserType (at (codes "public") (codes "v")))) ∷ Some (cause.Absent (key.Rel (at (codes "public") (codes "m")))) ∷ Some (cause.Absent (key.Rel (at (codes "a") (codes "t")))) ∷ Some (cause.Absent (key.Rel (at (codes "public") (codes "u")))) ∷ Some (cause.Absent (key.Rel (at (codes "public") (codes "t")))) ∷ None ∷ None ∷ None ∷ Some (cause.Absent (key.UserType (at (codes "a") (codes "m")))) ∷ Some cause.WrongColumns ∷ Some (cause.Absent (key.Rel (at (codes "a") (codes "n")))) ∷ Some cause.WrongColumns ∷ None ∷ None ∷ Some cause.WrongColumns ∷ None ∷ Some (cause.Exists (key.Rel (at (codes "public") (codes "n")))) ∷ Some (cause.Exists (key.Schema (codes "public"))) ∷ Some (cause.Fields 1 1) ∷ []

abbrev pub keys_one : List Key
keys_one = key.Role (codes "bob") ∷ key.Role (codes "eve") ∷ key.Role (codes "postgres") ∷ key.Schema (codes "a") ∷ key.Schema (codes "public") ∷ key.UserType (at (codes "public") (codes "u")) ∷ key.Rel (at (codes "a") (codes "n")) ∷ key.Rel (at (codes "a") (codes "u")) ∷ key.Rel (at (codes "public") (codes "n")) ∷ key.Owner (object.Schema (codes "a")) ∷ key.Owner (object.Schema (codes "public")) ∷ key.Owner (object.Type (at (codes "public") (codes "u"))) ∷ key.Owner (object.Relation (at (codes "a") (codes "u"))) ∷ key.Owner (object.Relation (at (codes "public") (codes "n"))) ∷ key.Owner (object.Database (codes "postgres")) ∷ key.Index (at (codes "a") (codes "u")) (codes "n") ∷ key.Rows (at (codes "a") (codes "u")) ∷ key.SeqVal (at (codes "public") (codes "n")) ∷ key.OwnedBy (at (codes "public") (codes "n")) ∷ key.Acl (object.Schema (codes "a")) ∷ key.Acl (object.Schema (codes "public")) ∷ key.Acl (object.Type (at (codes "public") (codes "u"))) ∷ key.Acl (object.Relation (at (codes "a") (codes "u"))) ∷ key.Acl (object.Relation (at (codes "public") (codes "n"))) ∷ key.Database (codes "postgres") ∷ []

abbrev pub run_two : List Stmt
run_two =
    stmt.CreateSchema (codes "a")
    ∷ stmt.CreateRole (codes "bob")
    ∷ stmt.CreateRole (codes "eve")
    ∷ stmt.CreateTable (at (codes "a") (codes "k")) ((record { name = (codes "y"); type_name = (Path (at (codes "pg_catalog") (codes "int4"))); «default» = (Some (codes "1")); not_null = false }) ∷ []) []
    ∷ stmt.CopyRows (at (codes "a") (codes "k")) [] []
    ∷ stmt.CreateEnum (at (codes "public") (codes "k")) ((codes "m") ∷ (codes "1") ∷ [])
    ∷ stmt.GrantRole (codes "eve") (codes "postgres") (Some (codes "postgres")) false (Some false) true
    ∷ stmt.OwnedBy (at (codes "public") (codes "k")) (at (codes "public") (codes "k")) (codes "z")
    ∷ stmt.CreateTable (at (codes "public") (codes "u")) ((record { name = (codes "x"); type_name = (Path (at (codes "pg_catalog") (codes "int4"))); «default» = (Some (69 ∷ 39 ∷ 97 ∷ 92 ∷ 39 ∷ 98 ∷ 39 ∷ [])); not_null = true }) ∷ (record { name = (codes "y"); type_name = (Path (at (codes "a") (codes "u"))); «default» = (Some (codes "1")); not_null = true }) ∷ []) ((record { name = (codes "v"); text = (codes "nextval('public.k'::regclass)") }) ∷ (record { name = (codes "u"); text = (codes "(VALUE > 0)") }) ∷ [])
    ∷ stmt.GrantRole (codes "eve") (codes "bob") None true None true
    ∷ stmt.AddPrimary (at (codes "public") (codes "m")) (codes "m") ((codes "y") ∷ []) []
    ∷ stmt.CreateIndex (at (codes "a") (codes "k")) (codes "t") (codes "btree") (codes "(z)")
    ∷ stmt.CreateDomain (at (codes "public") (codes "k")) (Words (codes "text")) true None ((record { name = (codes "m"); text = (codes "'m'::public.k") }) ∷ [])
    ∷ stmt.CreateTable (at (codes "a") (codes "n")) ((record { name = (codes "y"); type_name = (Words (codes "character(2)")); «default» = None; not_null = false }) ∷ (record { name = (codes "z"); type_name = (Words (codes "integer")); «default» = None; not_null = false }) ∷ []) ((record { name = (codes "t"); text = (codes "1") }) ∷ (record { name = (codes "v"); text = (codes "1") }) ∷ [])
    ∷ stmt.AddCheck (at (codes "public") (codes "m")) (codes "k") (codes "nextval('public.k'::regclass)")
    ∷ stmt.AddForeign (at (codes "a") (codes "n")) (codes "v") ((codes "x") ∷ []) (at (codes "a") (codes "n")) ((codes "z") ∷ []) []
    ∷ stmt.SetDefault (at (codes "a") (codes "k")) (codes "y") (codes "1")
    ∷ stmt.CreateTable (at (codes "a") (codes "t")) ((record { name = (codes "z"); type_name = (Words (codes "text")); «default» = (Some (codes "nextval('a.v'::regclass)")); not_null = false }) ∷ (record { name = (codes "x"); type_name = (Words (codes "character(2)")); «default» = None; not_null = true }) ∷ []) []
    ∷ stmt.AlterRole (codes "bob") (record { superuser = None; inherit = (Some false); create_role = None; create_db = None; login = None; replication = None; bypass_rls = None; limit = None; password = None; valid_until = None })
    ∷ stmt.Revoke (on.Table (at (codes "a") (codes "n"))) (record { select = false; usage = false; insert = true; references = false; delete = false; trigger = false; truncate = false; update = false; create = false }) (grantee.Role (codes "bob"))
    ∷ stmt.CopyRows (at (codes "a") (codes "k")) [] (50 ∷ 10 ∷ [])
    ∷ stmt.CopyRows (at (codes "a") (codes "n")) [] (109 ∷ 9 ∷ 92 ∷ 78 ∷ 10 ∷ [])
    ∷ []

abbrev pub said_two : List (Option Cause)
said_two = None ∷ None ∷ None ∷ None ∷ None ∷ None ∷ None ∷ Some (cause.Absent (key.Rel (at (codes "public") (codes "k")))) ∷ Some (cause.Absent (key.UserType (at (codes "a") (codes "u")))) ∷ None ∷ Some (cause.Absent (key.Rel (at (codes "public") (codes "m")))) ∷ None ∷ Some (cause.Exists (key.UserType (at (codes "public") (codes "k")))) ∷ None ∷ Some (cause.Absent (key.Rel (at (codes "public") (codes "m")))) ∷ Some (cause.Exists (key.Con (at (codes "a") (codes "n")) (codes "v"))) ∷ None ∷ Some (cause.Exists (key.Rel (at (codes "a") (codes "t")))) ∷ None ∷ None ∷ None ∷ None ∷ []

abbrev pub keys_two : List Key
keys_two = key.Role (codes "bob") ∷ key.Role (codes "eve") ∷ key.Role (codes "postgres") ∷ key.Member (codes "eve") (codes "bob") (codes "postgres") ∷ key.Member (codes "eve") (codes "postgres") (codes "postgres") ∷ key.Schema (codes "a") ∷ key.Schema (codes "public") ∷ key.UserType (at (codes "public") (codes "k")) ∷ key.Rel (at (codes "a") (codes "k")) ∷ key.Rel (at (codes "a") (codes "n")) ∷ key.Rel (at (codes "a") (codes "t")) ∷ key.Owner (object.Schema (codes "a")) ∷ key.Owner (object.Schema (codes "public")) ∷ key.Owner (object.Type (at (codes "public") (codes "k"))) ∷ key.Owner (object.Relation (at (codes "a") (codes "k"))) ∷ key.Owner (object.Relation (at (codes "a") (codes "n"))) ∷ key.Owner (object.Database (codes "postgres")) ∷ key.Default (at (codes "a") (codes "k")) (codes "y") ∷ key.Con (at (codes "a") (codes "n")) (codes "t") ∷ key.Con (at (codes "a") (codes "n")) (codes "v") ∷ key.Index (at (codes "a") (codes "k")) (codes "t") ∷ key.Rows (at (codes "a") (codes "k")) ∷ key.Rows (at (codes "a") (codes "n")) ∷ key.Acl (object.Schema (codes "a")) ∷ key.Acl (object.Schema (codes "public")) ∷ key.Acl (object.Type (at (codes "public") (codes "k"))) ∷ key.Acl (object.Relation (at (codes "a") (codes "k"))) ∷ key.Acl (object.Relation (at (codes "a") (codes "n"))) ∷ key.Database (codes "postgres") ∷ []

abbrev pub run_three : List Stmt
run_three =
    stmt.CreateSchema (codes "a")
    ∷ stmt.CreateRole (codes "bob")
    ∷ stmt.CreateRole (codes "eve")
    ∷ stmt.AddForeign (at (codes "public") (codes "m")) (codes "u") ((codes "z") ∷ []) (at (codes "public") (codes "n")) ((codes "x") ∷ []) []
    ∷ stmt.CopyRows (at (codes "a") (codes "v")) [] (92 ∷ 78 ∷ 9 ∷ 49 ∷ 9 ∷ 97 ∷ 32 ∷ 10 ∷ [])
    ∷ stmt.CreateUniqueIndex (at (codes "public") (codes "u")) (codes "k") (codes "btree") (codes "(x, z)")
    ∷ stmt.CreateIndex (at (codes "public") (codes "u")) (codes "n") (codes "btree") (codes "(z)")
    ∷ stmt.AlterRole (codes "bob") (record { superuser = None; inherit = (Some true); create_role = None; create_db = None; login = None; replication = None; bypass_rls = None; limit = None; password = None; valid_until = None })
    ∷ stmt.CreateSequence (at (codes "a") (codes "t")) sequences.BigInt (pos 1) (pos 1) (pos 1) (pos 9223372036854775807) (pos 1) false
    ∷ stmt.AddUnique (at (codes "a") (codes "m")) (codes "n") ((codes "z") ∷ []) []
    ∷ stmt.CreateTable (at (codes "a") (codes "u")) ((record { name = (codes "z"); type_name = (Words (codes "text")); «default» = (Some (69 ∷ 39 ∷ 97 ∷ 92 ∷ 39 ∷ 98 ∷ 39 ∷ [])); not_null = true }) ∷ []) ((record { name = (codes "k"); text = (codes "1") }) ∷ [])
    ∷ stmt.CreateRole (codes "postgres")
    ∷ stmt.AddUnique (at (codes "a") (codes "v")) (codes "m") ((codes "x") ∷ (codes "y") ∷ []) (codes "DEFERRABLE")
    ∷ stmt.CopyRows (at (codes "a") (codes "u")) [] (49 ∷ 9 ∷ 51 ∷ 9 ∷ 49 ∷ 10 ∷ [])
    ∷ stmt.CopyRows (at (codes "public") (codes "u")) [] []
    ∷ stmt.CreateTable (at (codes "a") (codes "n")) ((record { name = (codes "z"); type_name = (Words (codes "integer")); «default» = None; not_null = false }) ∷ []) []
    ∷ stmt.CopyRows (at (codes "a") (codes "n")) [] (49 ∷ 10 ∷ [])
    ∷ stmt.AddUnique (at (codes "a") (codes "u")) (codes "u") ((codes "z") ∷ (codes "x") ∷ []) (codes "DEFERRABLE")
    ∷ stmt.AddUnique (at (codes "a") (codes "n")) (codes "k") ((codes "z") ∷ []) (codes "DEFERRABLE")
    ∷ stmt.Revoke (on.Schema (codes "a")) (record { select = false; usage = true; insert = false; references = false; delete = false; trigger = false; truncate = false; update = false; create = true }) (grantee.Role (codes "postgres"))
    ∷ stmt.CreateView (at (codes "public") (codes "v")) (codes "SELECT 1 FROM a.t, (a.n JOIN a.n ON true)")
    ∷ stmt.SetDefault (at (codes "a") (codes "n")) (codes "y") (codes "(VALUE > 0)")
    ∷ stmt.Revoke (on.Type (at (codes "a") (codes "m"))) (record { select = false; usage = true; insert = false; references = false; delete = false; trigger = false; truncate = false; update = false; create = false }) (grantee.Role (codes "postgres"))
    ∷ stmt.AddPrimary (at (codes "a") (codes "u")) (codes "t") ((codes "x") ∷ (codes "y") ∷ []) []
    ∷ []

abbrev pub said_three : List (Option Cause)
said_three = None ∷ None ∷ None ∷ Some (cause.Absent (key.Rel (at (codes "public") (codes "m")))) ∷ Some (cause.Absent (key.Rel (at (codes "a") (codes "v")))) ∷ Some (cause.Absent (key.Rel (at (codes "public") (codes "u")))) ∷ Some (cause.Absent (key.Rel (at (codes "public") (codes "u")))) ∷ None ∷ None ∷ Some (cause.Absent (key.Rel (at (codes "a") (codes "m")))) ∷ None ∷ Some (cause.Exists (key.Role (codes "postgres"))) ∷ Some (cause.Absent (key.Rel (at (codes "a") (codes "v")))) ∷ Some (cause.Fields 1 3) ∷ Some (cause.Absent (key.Rel (at (codes "public") (codes "u")))) ∷ None ∷ None ∷ Some (cause.Exists (key.Rel (at (codes "a") (codes "u")))) ∷ None ∷ None ∷ None ∷ Some cause.WrongColumns ∷ Some (cause.Absent (key.UserType (at (codes "a") (codes "m")))) ∷ Some (cause.Exists (key.Rel (at (codes "a") (codes "t")))) ∷ []

abbrev pub keys_three : List Key
keys_three = key.Role (codes "bob") ∷ key.Role (codes "eve") ∷ key.Role (codes "postgres") ∷ key.Schema (codes "a") ∷ key.Schema (codes "public") ∷ key.Rel (at (codes "a") (codes "k")) ∷ key.Rel (at (codes "a") (codes "n")) ∷ key.Rel (at (codes "a") (codes "t")) ∷ key.Rel (at (codes "a") (codes "u")) ∷ key.Rel (at (codes "public") (codes "v")) ∷ key.Owner (object.Schema (codes "a")) ∷ key.Owner (object.Schema (codes "public")) ∷ key.Owner (object.Relation (at (codes "a") (codes "n"))) ∷ key.Owner (object.Relation (at (codes "a") (codes "t"))) ∷ key.Owner (object.Relation (at (codes "a") (codes "u"))) ∷ key.Owner (object.Relation (at (codes "public") (codes "v"))) ∷ key.Owner (object.Database (codes "postgres")) ∷ key.Default (at (codes "a") (codes "u")) (codes "z") ∷ key.Con (at (codes "a") (codes "n")) (codes "k") ∷ key.Con (at (codes "a") (codes "u")) (codes "k") ∷ key.Rows (at (codes "a") (codes "n")) ∷ key.Rows (at (codes "a") (codes "u")) ∷ key.SeqVal (at (codes "a") (codes "t")) ∷ key.Acl (object.Schema (codes "a")) ∷ key.Acl (object.Schema (codes "public")) ∷ key.Acl (object.Relation (at (codes "a") (codes "n"))) ∷ key.Acl (object.Relation (at (codes "a") (codes "t"))) ∷ key.Acl (object.Relation (at (codes "a") (codes "u"))) ∷ key.Acl (object.Relation (at (codes "public") (codes "v"))) ∷ key.Body (at (codes "public") (codes "v")) ∷ key.Database (codes "postgres") ∷ []

abbrev pub run_four : List Stmt
run_four =
    stmt.CreateSchema (codes "a")
    ∷ stmt.CreateRole (codes "bob")
    ∷ stmt.CreateRole (codes "eve")
    ∷ stmt.Comment (commented.Constraint (at (codes "a") (codes "m")) (codes "k")) (Some (codes "hi"))
    ∷ stmt.CreateView (at (codes "a") (codes "k")) (codes "SELECT 1 FROM a.t, (a.t JOIN public.m ON true)")
    ∷ stmt.CopyRows (at (codes "a") (codes "v")) [] (51 ∷ 9 ∷ 50 ∷ 10 ∷ [])
    ∷ stmt.CreateDatabase (codes "t") None
    ∷ stmt.CreateSequence (at (codes "public") (codes "k")) sequences.BigInt (pos 1) (pos 1) (pos 1) (pos 9223372036854775807) (pos 1) false
    ∷ stmt.AddPrimary (at (codes "public") (codes "m")) (codes "u") ((codes "z") ∷ (codes "x") ∷ []) []
    ∷ stmt.CreateSequence (at (codes "public") (codes "v")) sequences.BigInt (pos 1) (pos 1) (pos 1) (pos 9223372036854775807) (pos 1) false
    ∷ stmt.CreateDomain (at (codes "a") (codes "n")) (Path (at (codes "pg_catalog") (codes "int4"))) true None ((record { name = (codes "u"); text = (codes "1") }) ∷ (record { name = (codes "n"); text = (codes "'m'::public.v") }) ∷ [])
    ∷ stmt.Comment (commented.Schema (codes "a")) (Some (codes "hi"))
    ∷ stmt.ReplaceView (at (codes "a") (codes "k")) (codes "SELECT 1 FROM a.t, (a.u JOIN a.v ON true)")
    ∷ stmt.GrantRole (codes "bob") (codes "bob") (Some (codes "bob")) true None true
    ∷ stmt.SetDefault (at (codes "a") (codes "k")) (codes "z") (codes "'m'::a.u")
    ∷ stmt.Revoke (on.Schema (codes "public")) (record { select = false; usage = true; insert = false; references = false; delete = false; trigger = false; truncate = false; update = false; create = true }) (grantee.Role (codes "eve"))
    ∷ stmt.OwnedBy (at (codes "public") (codes "v")) (at (codes "a") (codes "m")) (codes "z")
    ∷ stmt.AddForeign (at (codes "a") (codes "u")) (codes "k") ((codes "x") ∷ []) (at (codes "a") (codes "u")) ((codes "x") ∷ []) []
    ∷ stmt.CreateTable (at (codes "a") (codes "k")) ((record { name = (codes "x"); type_name = (Words (codes "text")); «default» = None; not_null = false }) ∷ (record { name = (codes "z"); type_name = (Words (codes "character(2)")); «default» = None; not_null = false }) ∷ []) ((record { name = (codes "u"); text = (69 ∷ 39 ∷ 97 ∷ 92 ∷ 39 ∷ 98 ∷ 39 ∷ []) }) ∷ [])
    ∷ stmt.CopyRows (at (codes "a") (codes "k")) [] []
    ∷ stmt.SetVal (at (codes "a") (codes "t")) (pos 0) true
    ∷ stmt.CreateSequence (at (codes "a") (codes "v")) sequences.BigInt (pos 0) (pos 1) (pos 1) (pos 9223372036854775807) (pos 1) false
    ∷ []

abbrev pub said_four : List (Option Cause)
said_four = None ∷ None ∷ None ∷ Some (cause.Absent (key.Con (at (codes "a") (codes "m")) (codes "k"))) ∷ Some (cause.Absent (key.Rel (at (codes "a") (codes "t")))) ∷ Some (cause.Absent (key.Rel (at (codes "a") (codes "v")))) ∷ None ∷ None ∷ Some (cause.Absent (key.Rel (at (codes "public") (codes "m")))) ∷ None ∷ Some (cause.Absent (key.UserType (at (codes "public") (codes "v")))) ∷ None ∷ Some (cause.Absent (key.Rel (at (codes "a") (codes "k")))) ∷ None ∷ Some (cause.Absent (key.Rel (at (codes "a") (codes "k")))) ∷ None ∷ Some (cause.Absent (key.Rel (at (codes "a") (codes "m")))) ∷ Some (cause.Absent (key.Rel (at (codes "a") (codes "u")))) ∷ None ∷ None ∷ Some (cause.Absent (key.Rel (at (codes "a") (codes "t")))) ∷ Some cause.OutOfRange ∷ []

abbrev pub keys_four : List Key
keys_four = key.Role (codes "bob") ∷ key.Role (codes "eve") ∷ key.Role (codes "postgres") ∷ key.Member (codes "bob") (codes "bob") (codes "bob") ∷ key.Schema (codes "a") ∷ key.Schema (codes "public") ∷ key.Rel (at (codes "a") (codes "k")) ∷ key.Rel (at (codes "public") (codes "k")) ∷ key.Rel (at (codes "public") (codes "v")) ∷ key.Owner (object.Schema (codes "a")) ∷ key.Owner (object.Schema (codes "public")) ∷ key.Owner (object.Relation (at (codes "a") (codes "k"))) ∷ key.Owner (object.Relation (at (codes "public") (codes "k"))) ∷ key.Owner (object.Relation (at (codes "public") (codes "v"))) ∷ key.Owner (object.Database (codes "postgres")) ∷ key.Owner (object.Database (codes "t")) ∷ key.Con (at (codes "a") (codes "k")) (codes "u") ∷ key.Rows (at (codes "a") (codes "k")) ∷ key.SeqVal (at (codes "public") (codes "k")) ∷ key.SeqVal (at (codes "public") (codes "v")) ∷ key.Acl (object.Schema (codes "a")) ∷ key.Acl (object.Schema (codes "public")) ∷ key.Acl (object.Relation (at (codes "a") (codes "k"))) ∷ key.Acl (object.Relation (at (codes "public") (codes "k"))) ∷ key.Acl (object.Relation (at (codes "public") (codes "v"))) ∷ key.Comment (object.Schema (codes "a")) ∷ key.Database (codes "postgres") ∷ key.Database (codes "t") ∷ []
