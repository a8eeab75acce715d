-- Runs of statements from the export of an empty cluster, each with the keys that are there at the end and their
-- values. The values were worked out by hand-written rules apart from these definitions.
use Rattle.std.specs.Prelude.{true, false, List, [], ◌∷◌, Some, None, codes, pos}
use Rattle.cat_model.specs.declared.object.Object.TheVariants as object
use Rattle.cat_model.specs.declared.key.Key.TheVariants as key
use Rattle.cat_model.specs.declared.stmt.Stmt.{Stmt}
use Rattle.cat_model.specs.declared.stmt.Stmt.TheVariants as stmt
use Rattle.cat_model.specs.declared.grant.Owned.TheVariants as owned
use Rattle.cat_model.specs.declared.grant.Granted.TheVariants as on
use Rattle.cat_model.specs.declared.grant.Commented.TheVariants as commented
use Rattle.cat_model.specs.declared.grant.Grantee.TheVariants as grantee
use Rattle.cat_model.specs.declared.constraint.ConstraintKind.TheVariants as kinds
use Rattle.cat_model.specs.declared.constraint.SequenceKind.TheVariants as sequences
use Rattle.cat_model.specs.declared.constraint.Encoding.TheVariants as encoding
use Rattle.cat_model.specs.declared.type_name.TypeName.TheVariants.{Words, Path}
use Rattle.cat_model.specs.declared.value.Value.TheVariants as value
use Rattle.model_laws.specs.Runs.{at}
use Rattle.value_runs.specs.Written.{Entries, letters, owner, public, rights, created_role, first_role, membership, resolved, domain, column, typed, sequence, unique_key, check, index}

abbrev pub run_nine : List Stmt
run_nine =
    stmt.CreateSchema (codes "a")
    ∷ stmt.CreateRole (codes "bob")
    ∷ stmt.CreateRole (codes "eve")
    ∷ stmt.CreateView (at (codes "a") (codes "n")) (codes "SELECT 1 FROM a.m, (a.n JOIN a.k ON true)")
    ∷ stmt.CreateDomain (at (codes "public") (codes "n")) (Words (codes "text")) true None []
    ∷ stmt.Grant (on.Table (at (codes "a") (codes "m"))) (letters (codes "arwdDxt")) (grantee.Role (codes "bob")) false
    ∷ stmt.Grant (on.Type (at (codes "public") (codes "n"))) (letters (codes "U")) grantee.Public false
    ∷ stmt.Revoke (on.Schema (codes "a")) (letters (codes "UC")) (grantee.Role (codes "bob"))
    ∷ stmt.ReplaceView (at (codes "a") (codes "k")) (codes "SELECT 1 FROM public.u, (public.n JOIN public.t ON true)")
    ∷ stmt.GrantRole (codes "eve") (codes "postgres") None false (Some false) true
    ∷ stmt.AddPrimary (at (codes "a") (codes "u")) (codes "n") ((codes "x") ∷ []) []
    ∷ stmt.OwnedBy (at (codes "public") (codes "m")) (at (codes "public") (codes "t")) (codes "y")
    ∷ stmt.Grant (on.Schema (codes "a")) (letters (codes "C")) (grantee.Role (codes "postgres")) true
    ∷ stmt.OwnerTo (owned.Domain (at (codes "public") (codes "n"))) (codes "bob")
    ∷ stmt.Revoke (on.Schema (codes "public")) (letters (codes "UC")) (grantee.Role (codes "postgres"))
    ∷ stmt.CreateTable (at (codes "a") (codes "n")) (record { name = (codes "x"); type_name = (Words (codes "integer")); «default» = (Some (codes "1")); not_null = false } ∷ record { name = (codes "z"); type_name = (Path (at (codes "pg_catalog") (codes "int4"))); «default» = (Some (codes "E'a\\'b'")); not_null = true } ∷ record { name = (codes "y"); type_name = (Words (codes "text")); «default» = (Some (codes "(VALUE > 0)")); not_null = false } ∷ []) []
    ∷ stmt.CreateTable (at (codes "a") (codes "v")) (record { name = (codes "y"); type_name = (Words (codes "text")); «default» = (Some (codes "nextval('a.v'::regclass)")); not_null = false } ∷ record { name = (codes "z"); type_name = (Path (at (codes "pg_catalog") (codes "int4"))); «default» = (Some (codes "'m'::public.n")); not_null = false } ∷ []) (record { name = (codes "u"); text = (codes "'m'::public.m") } ∷ record { name = (codes "k"); text = (codes "(VALUE > 0)") } ∷ [])
    ∷ stmt.AlterRole (codes "postgres") (record { superuser = None; inherit = (Some true); create_role = None; create_db = None; login = None; replication = None; bypass_rls = None; limit = None; password = None; valid_until = None })
    ∷ stmt.CreateDomain (at (codes "public") (codes "m")) (Words (codes "integer")) false (Some (codes "'m'::public.n")) (record { name = (codes "k"); text = (codes "'m'::public.n") } ∷ record { name = (codes "n"); text = (codes "1") } ∷ [])
    ∷ stmt.AddForeign (at (codes "a") (codes "n")) (codes "u") ((codes "y") ∷ []) (at (codes "a") (codes "n")) ((codes "y") ∷ []) []
    ∷ stmt.CreateDomain (at (codes "a") (codes "t")) (Path (at (codes "public") (codes "n"))) true (Some (codes "'m'::public.n")) []
    ∷ stmt.CreateEnum (at (codes "a") (codes "t")) ((codes "m") ∷ [])
    ∷ []

abbrev pub values_nine : Entries
values_nine =
    (key.Role (codes "bob"), created_role true)
    ∷ (key.Role (codes "eve"), created_role true)
    ∷ (key.Role (codes "postgres"), first_role true)
    ∷ (key.Member (codes "eve") (codes "postgres") (codes "postgres"), membership false false true)
    ∷ (key.Schema (codes "a"), value.Schema)
    ∷ (key.Schema (codes "public"), value.Schema)
    ∷ (key.UserType (at (codes "a") (codes "t")), domain (Path (at (codes "public") (codes "n"))) (resolved (Words (codes "text")) None true) true (Some (codes "'m'::public.n")) [])
    ∷ (key.UserType (at (codes "public") (codes "m")), domain (Words (codes "integer")) (resolved (Words (codes "integer")) None false) false (Some (codes "'m'::public.n")) (((codes "k"), (codes "'m'::public.n")) ∷ ((codes "n"), (codes "1")) ∷ []))
    ∷ (key.UserType (at (codes "public") (codes "n")), domain (Words (codes "text")) (resolved (Words (codes "text")) None false) true None [])
    ∷ (key.Rel (at (codes "a") (codes "n")), value.Table (column (codes "x") (Words (codes "integer")) false ∷ column (codes "z") (Path (at (codes "pg_catalog") (codes "int4"))) true ∷ column (codes "y") (Words (codes "text")) false ∷ []))
    ∷ (key.Owner (object.Schema (codes "a")), value.Owner (codes "postgres"))
    ∷ (key.Owner (object.Schema (codes "public")), value.Owner (codes "postgres"))
    ∷ (key.Owner (object.Type (at (codes "a") (codes "t"))), value.Owner (codes "postgres"))
    ∷ (key.Owner (object.Type (at (codes "public") (codes "m"))), value.Owner (codes "postgres"))
    ∷ (key.Owner (object.Type (at (codes "public") (codes "n"))), value.Owner (codes "bob"))
    ∷ (key.Owner (object.Relation (at (codes "a") (codes "n"))), value.Owner (codes "postgres"))
    ∷ (key.Owner (object.Database (codes "postgres")), value.Owner (codes "postgres"))
    ∷ (key.Default (at (codes "a") (codes "n")) (codes "x"), value.DefaultText (codes "1"))
    ∷ (key.Default (at (codes "a") (codes "n")) (codes "y"), value.DefaultText (codes "(VALUE > 0)"))
    ∷ (key.Default (at (codes "a") (codes "n")) (codes "z"), value.DefaultText (codes "E'a\\'b'"))
    ∷ (key.Rows (at (codes "a") (codes "n")), value.Rows [])
    ∷ (key.Acl (object.Schema (codes "a")), rights (owner (codes "UC*") ∷ []))
    ∷ (key.Acl (object.Schema (codes "public")), rights [])
    ∷ (key.Acl (object.Type (at (codes "a") (codes "t"))), rights (owner (codes "U") ∷ public (codes "U") ∷ []))
    ∷ (key.Acl (object.Type (at (codes "public") (codes "m"))), rights (owner (codes "U") ∷ public (codes "U") ∷ []))
    ∷ (key.Acl (object.Type (at (codes "public") (codes "n"))), rights (owner (codes "U") ∷ public (codes "U") ∷ []))
    ∷ (key.Acl (object.Relation (at (codes "a") (codes "n"))), rights (owner (codes "arwdDxt") ∷ []))
    ∷ (key.Database (codes "postgres"), value.Database encoding.Utf8)
    ∷ []

abbrev pub run_ten : List Stmt
run_ten =
    stmt.CreateSchema (codes "a")
    ∷ stmt.CreateRole (codes "bob")
    ∷ stmt.CreateRole (codes "eve")
    ∷ stmt.AddForeign (at (codes "a") (codes "u")) (codes "m") ((codes "y") ∷ []) (at (codes "a") (codes "n")) ((codes "x") ∷ []) []
    ∷ stmt.Comment (commented.Schema (codes "public")) (Some (codes "hi"))
    ∷ stmt.SetVal (at (codes "a") (codes "u")) (pos 0) true
    ∷ stmt.AddUnique (at (codes "public") (codes "t")) (codes "k") ((codes "x") ∷ []) []
    ∷ stmt.CreateEnum (at (codes "a") (codes "k")) ((codes "m") ∷ (codes "1") ∷ [])
    ∷ stmt.AddForeign (at (codes "public") (codes "n")) (codes "k") ((codes "x") ∷ []) (at (codes "public") (codes "m")) ((codes "z") ∷ []) []
    ∷ stmt.CreateUniqueIndex (at (codes "a") (codes "v")) (codes "u") (codes "btree") (codes "(z, y)")
    ∷ stmt.CreateView (at (codes "public") (codes "t")) (codes "SELECT 1 FROM public.v, (public.u JOIN a.v ON true)")
    ∷ stmt.CreateDatabase (codes "n") None
    ∷ stmt.CreateTable (at (codes "a") (codes "n")) (record { name = (codes "x"); type_name = (Path (at (codes "pg_catalog") (codes "int4"))); «default» = (Some (codes "1")); not_null = true } ∷ record { name = (codes "y"); type_name = (Words (codes "text")); «default» = None; not_null = false } ∷ record { name = (codes "z"); type_name = (Words (codes "integer")); «default» = (Some (codes "nextval('public.t'::regclass)")); not_null = true } ∷ []) []
    ∷ stmt.CreateTable (at (codes "a") (codes "k")) (record { name = (codes "y"); type_name = (Words (codes "character(2)")); «default» = None; not_null = false } ∷ record { name = (codes "x"); type_name = (Path (at (codes "a") (codes "k"))); «default» = None; not_null = false } ∷ []) (record { name = (codes "u"); text = (codes "E'a\\'b'") } ∷ record { name = (codes "k"); text = (codes "E'a\\'b'") } ∷ [])
    ∷ stmt.AddForeign (at (codes "a") (codes "k")) (codes "t") ((codes "x") ∷ []) (at (codes "a") (codes "k")) ((codes "x") ∷ []) []
    ∷ stmt.CreateIndex (at (codes "a") (codes "k")) (codes "t") (codes "btree") (codes "(y)")
    ∷ stmt.CreateView (at (codes "a") (codes "v")) (codes "SELECT 1 FROM a.k, (a.n JOIN a.k ON true)")
    ∷ stmt.GrantRole (codes "eve") (codes "bob") None true None true
    ∷ stmt.CopyRows (at (codes "a") (codes "k")) [] (codes "3\nm\n")
    ∷ stmt.Grant (on.Schema (codes "a")) (letters (codes "UC")) grantee.Public true
    ∷ stmt.AddUnique (at (codes "a") (codes "k")) (codes "m") ((codes "y") ∷ (codes "x") ∷ []) (codes "DEFERRABLE")
    ∷ stmt.AddPrimary (at (codes "a") (codes "k")) (codes "v") ((codes "z") ∷ (codes "x") ∷ []) []
    ∷ stmt.CreateView (at (codes "a") (codes "v")) (codes "SELECT 1 FROM public.m, (a.t JOIN a.k ON true)")
    ∷ stmt.CreateEnum (at (codes "a") (codes "t")) ((codes "m") ∷ (codes "m") ∷ [])
    ∷ stmt.CopyRows (at (codes "a") (codes "k")) [] (codes "a \t\\N\n")
    ∷ []

abbrev pub values_ten : Entries
values_ten =
    (key.Role (codes "bob"), created_role true)
    ∷ (key.Role (codes "eve"), created_role true)
    ∷ (key.Role (codes "postgres"), first_role true)
    ∷ (key.Member (codes "eve") (codes "bob") (codes "postgres"), membership true true true)
    ∷ (key.Schema (codes "a"), value.Schema)
    ∷ (key.Schema (codes "public"), value.Schema)
    ∷ (key.UserType (at (codes "a") (codes "k")), value.Enum ((codes "m") ∷ (codes "1") ∷ []))
    ∷ (key.Rel (at (codes "a") (codes "k")), value.Table (column (codes "y") (Words (codes "character(2)")) false ∷ typed (codes "x") (Path (at (codes "a") (codes "k"))) (resolved (Path (at (codes "a") (codes "k"))) (Some ((codes "m") ∷ (codes "1") ∷ [])) false) false ∷ []))
    ∷ (key.Rel (at (codes "a") (codes "m")), value.IndexOf (at (codes "a") (codes "k")))
    ∷ (key.Rel (at (codes "a") (codes "t")), value.IndexOf (at (codes "a") (codes "k")))
    ∷ (key.Owner (object.Schema (codes "a")), value.Owner (codes "postgres"))
    ∷ (key.Owner (object.Schema (codes "public")), value.Owner (codes "postgres"))
    ∷ (key.Owner (object.Type (at (codes "a") (codes "k"))), value.Owner (codes "postgres"))
    ∷ (key.Owner (object.Relation (at (codes "a") (codes "k"))), value.Owner (codes "postgres"))
    ∷ (key.Owner (object.Database (codes "n")), value.Owner (codes "postgres"))
    ∷ (key.Owner (object.Database (codes "postgres")), value.Owner (codes "postgres"))
    ∷ (key.Con (at (codes "a") (codes "k")) (codes "k"), check (codes "E'a\\'b'"))
    ∷ (key.Con (at (codes "a") (codes "k")) (codes "m"), unique_key kinds.Unique ((codes "y") ∷ (codes "x") ∷ []) (codes "DEFERRABLE"))
    ∷ (key.Con (at (codes "a") (codes "k")) (codes "u"), check (codes "E'a\\'b'"))
    ∷ (key.Index (at (codes "a") (codes "k")) (codes "t"), index (codes "btree") false (codes "(y)"))
    ∷ (key.Rows (at (codes "a") (codes "k")), value.Rows (((Some (codes "a ")) ∷ None ∷ []) ∷ []))
    ∷ (key.Acl (object.Schema (codes "a")), rights (owner (codes "UC") ∷ public (codes "U*C*") ∷ []))
    ∷ (key.Acl (object.Schema (codes "public")), rights (owner (codes "UC") ∷ []))
    ∷ (key.Acl (object.Type (at (codes "a") (codes "k"))), rights (owner (codes "U") ∷ public (codes "U") ∷ []))
    ∷ (key.Acl (object.Relation (at (codes "a") (codes "k"))), rights (owner (codes "arwdDxt") ∷ []))
    ∷ (key.Comment (object.Schema (codes "public")), value.Comment (codes "hi"))
    ∷ (key.Database (codes "n"), value.Database encoding.Utf8)
    ∷ (key.Database (codes "postgres"), value.Database encoding.Utf8)
    ∷ []

abbrev pub run_eleven : List Stmt
run_eleven =
    stmt.CreateSchema (codes "a")
    ∷ stmt.CreateRole (codes "bob")
    ∷ stmt.CreateRole (codes "eve")
    ∷ stmt.CreateEnum (at (codes "a") (codes "t")) ((codes "m") ∷ (codes "1") ∷ [])
    ∷ stmt.CopyRows (at (codes "public") (codes "m")) ((codes "x") ∷ []) []
    ∷ stmt.CreateSequence (at (codes "public") (codes "m")) sequences.SmallInt (pos 1) (pos 1) (pos 1) (pos 32767) (pos 1) true
    ∷ stmt.CreateTable (at (codes "public") (codes "u")) (record { name = (codes "y"); type_name = (Path (at (codes "a") (codes "t"))); «default» = None; not_null = true } ∷ []) []
    ∷ stmt.AddPrimary (at (codes "public") (codes "u")) (codes "t") ((codes "z") ∷ []) []
    ∷ stmt.CreateDomain (at (codes "public") (codes "m")) (Words (codes "integer")) true None (record { name = (codes "v"); text = (codes "1") } ∷ [])
    ∷ stmt.AlterRole (codes "postgres") (record { superuser = None; inherit = (Some false); create_role = None; create_db = None; login = None; replication = None; bypass_rls = None; limit = None; password = None; valid_until = None })
    ∷ stmt.CopyRows (at (codes "public") (codes "u")) [] (codes "\\N\ta \n1\tm\n")
    ∷ stmt.CreateUniqueIndex (at (codes "public") (codes "u")) (codes "t") (codes "btree") (codes "(z, x) WHERE true")
    ∷ stmt.CreateDatabase (codes "u") None
    ∷ stmt.CreateUniqueIndex (at (codes "public") (codes "u")) (codes "n") (codes "btree") (codes "(z)")
    ∷ stmt.SetVal (at (codes "public") (codes "m")) (pos 5) true
    ∷ stmt.Revoke (on.Schema (codes "public")) (letters (codes "UC")) (grantee.Role (codes "postgres"))
    ∷ stmt.CreateTable (at (codes "public") (codes "k")) (record { name = (codes "y"); type_name = (Words (codes "character(2)")); «default» = (Some (codes "'m'::public.m")); not_null = false } ∷ record { name = (codes "x"); type_name = (Words (codes "integer")); «default» = (Some (codes "1")); not_null = true } ∷ []) (record { name = (codes "t"); text = (codes "E'a\\'b'") } ∷ [])
    ∷ stmt.GrantRole (codes "bob") (codes "postgres") (Some (codes "eve")) true None true
    ∷ stmt.Revoke (on.Table (at (codes "public") (codes "k"))) (letters (codes "d")) grantee.Public
    ∷ stmt.AddForeign (at (codes "public") (codes "u")) (codes "n") ((codes "y") ∷ []) (at (codes "public") (codes "u")) ((codes "x") ∷ []) []
    ∷ []

abbrev pub values_eleven : Entries
values_eleven =
    (key.Role (codes "bob"), created_role true)
    ∷ (key.Role (codes "eve"), created_role true)
    ∷ (key.Role (codes "postgres"), first_role false)
    ∷ (key.Member (codes "bob") (codes "postgres") (codes "eve"), membership true false true)
    ∷ (key.Schema (codes "a"), value.Schema)
    ∷ (key.Schema (codes "public"), value.Schema)
    ∷ (key.UserType (at (codes "a") (codes "t")), value.Enum ((codes "m") ∷ (codes "1") ∷ []))
    ∷ (key.UserType (at (codes "public") (codes "m")), domain (Words (codes "integer")) (resolved (Words (codes "integer")) None false) true None (((codes "v"), (codes "1")) ∷ []))
    ∷ (key.Rel (at (codes "public") (codes "k")), value.Table (column (codes "y") (Words (codes "character(2)")) false ∷ column (codes "x") (Words (codes "integer")) true ∷ []))
    ∷ (key.Rel (at (codes "public") (codes "m")), sequence sequences.SmallInt (pos 1) (pos 1) (pos 1) (pos 32767) (pos 1) true)
    ∷ (key.Rel (at (codes "public") (codes "t")), value.IndexOf (at (codes "public") (codes "u")))
    ∷ (key.Rel (at (codes "public") (codes "u")), value.Table (typed (codes "y") (Path (at (codes "a") (codes "t"))) (resolved (Path (at (codes "a") (codes "t"))) (Some ((codes "m") ∷ (codes "1") ∷ [])) false) true ∷ []))
    ∷ (key.Owner (object.Schema (codes "a")), value.Owner (codes "postgres"))
    ∷ (key.Owner (object.Schema (codes "public")), value.Owner (codes "postgres"))
    ∷ (key.Owner (object.Type (at (codes "a") (codes "t"))), value.Owner (codes "postgres"))
    ∷ (key.Owner (object.Type (at (codes "public") (codes "m"))), value.Owner (codes "postgres"))
    ∷ (key.Owner (object.Relation (at (codes "public") (codes "k"))), value.Owner (codes "postgres"))
    ∷ (key.Owner (object.Relation (at (codes "public") (codes "m"))), value.Owner (codes "postgres"))
    ∷ (key.Owner (object.Relation (at (codes "public") (codes "u"))), value.Owner (codes "postgres"))
    ∷ (key.Owner (object.Database (codes "postgres")), value.Owner (codes "postgres"))
    ∷ (key.Owner (object.Database (codes "u")), value.Owner (codes "postgres"))
    ∷ (key.Default (at (codes "public") (codes "k")) (codes "x"), value.DefaultText (codes "1"))
    ∷ (key.Default (at (codes "public") (codes "k")) (codes "y"), value.DefaultText (codes "'m'::public.m"))
    ∷ (key.Con (at (codes "public") (codes "k")) (codes "t"), check (codes "E'a\\'b'"))
    ∷ (key.Index (at (codes "public") (codes "u")) (codes "t"), index (codes "btree") true (codes "(z, x) WHERE true"))
    ∷ (key.Rows (at (codes "public") (codes "k")), value.Rows [])
    ∷ (key.Rows (at (codes "public") (codes "u")), value.Rows [])
    ∷ (key.SeqVal (at (codes "public") (codes "m")), value.SequenceValue (pos 5) true)
    ∷ (key.Acl (object.Schema (codes "a")), rights (owner (codes "UC") ∷ []))
    ∷ (key.Acl (object.Schema (codes "public")), rights [])
    ∷ (key.Acl (object.Type (at (codes "a") (codes "t"))), rights (owner (codes "U") ∷ public (codes "U") ∷ []))
    ∷ (key.Acl (object.Type (at (codes "public") (codes "m"))), rights (owner (codes "U") ∷ public (codes "U") ∷ []))
    ∷ (key.Acl (object.Relation (at (codes "public") (codes "k"))), rights (owner (codes "arwdDxt") ∷ []))
    ∷ (key.Acl (object.Relation (at (codes "public") (codes "m"))), rights (owner (codes "rwU") ∷ []))
    ∷ (key.Acl (object.Relation (at (codes "public") (codes "u"))), rights (owner (codes "arwdDxt") ∷ []))
    ∷ (key.Database (codes "postgres"), value.Database encoding.Utf8)
    ∷ (key.Database (codes "u"), value.Database encoding.Utf8)
    ∷ []

abbrev pub run_twelve : List Stmt
run_twelve =
    stmt.CreateSchema (codes "a")
    ∷ stmt.CreateRole (codes "bob")
    ∷ stmt.CreateRole (codes "eve")
    ∷ stmt.CopyRows (at (codes "a") (codes "v")) ((codes "x") ∷ []) (codes "1\n")
    ∷ stmt.AddPrimary (at (codes "a") (codes "m")) (codes "u") ((codes "z") ∷ []) []
    ∷ stmt.OwnerTo (owned.Database (codes "postgres")) (codes "bob")
    ∷ stmt.CreateRole (codes "eve")
    ∷ stmt.AddCheck (at (codes "public") (codes "m")) (codes "u") (codes "1")
    ∷ stmt.CreateUniqueIndex (at (codes "a") (codes "v")) (codes "m") (codes "btree") (codes "(x)")
    ∷ stmt.AddForeign (at (codes "public") (codes "v")) (codes "u") ((codes "x") ∷ []) (at (codes "public") (codes "t")) ((codes "z") ∷ []) []
    ∷ stmt.CopyRows (at (codes "public") (codes "k")) ((codes "x") ∷ (codes "y") ∷ []) []
    ∷ stmt.CreateTable (at (codes "public") (codes "t")) (record { name = (codes "x"); type_name = (Words (codes "text")); «default» = (Some (codes "1")); not_null = false } ∷ record { name = (codes "y"); type_name = (Path (at (codes "pg_catalog") (codes "int4"))); «default» = None; not_null = false } ∷ []) []
    ∷ stmt.CopyRows (at (codes "public") (codes "t")) [] []
    ∷ stmt.AddDomainCheck (at (codes "public") (codes "v")) (codes "k") (codes "(VALUE > 0)")
    ∷ stmt.CreateTable (at (codes "public") (codes "u")) (record { name = (codes "y"); type_name = (Words (codes "text")); «default» = None; not_null = false } ∷ []) []
    ∷ stmt.CopyRows (at (codes "public") (codes "u")) [] (codes "2\n2\n")
    ∷ stmt.CreateUniqueIndex (at (codes "public") (codes "u")) (codes "n") (codes "btree") (codes "(z) WHERE true")
    ∷ stmt.Comment (commented.View (at (codes "public") (codes "n"))) (Some [])
    ∷ stmt.CreateView (at (codes "public") (codes "k")) (codes "SELECT 1 FROM public.u, (public.t JOIN public.t ON true)")
    ∷ stmt.CreateDatabase (codes "u") None
    ∷ stmt.CopyRows (at (codes "public") (codes "t")) ((codes "x") ∷ (codes "y") ∷ []) (codes "\\N\tm\n")
    ∷ stmt.CopyRows (at (codes "public") (codes "t")) [] []
    ∷ []

abbrev pub values_twelve : Entries
values_twelve =
    (key.Role (codes "bob"), created_role true)
    ∷ (key.Role (codes "eve"), created_role true)
    ∷ (key.Role (codes "postgres"), first_role true)
    ∷ (key.Schema (codes "a"), value.Schema)
    ∷ (key.Schema (codes "public"), value.Schema)
    ∷ (key.Rel (at (codes "public") (codes "k")), value.View)
    ∷ (key.Rel (at (codes "public") (codes "n")), value.IndexOf (at (codes "public") (codes "u")))
    ∷ (key.Rel (at (codes "public") (codes "t")), value.Table (column (codes "x") (Words (codes "text")) false ∷ column (codes "y") (Path (at (codes "pg_catalog") (codes "int4"))) false ∷ []))
    ∷ (key.Rel (at (codes "public") (codes "u")), value.Table (column (codes "y") (Words (codes "text")) false ∷ []))
    ∷ (key.Owner (object.Schema (codes "a")), value.Owner (codes "postgres"))
    ∷ (key.Owner (object.Schema (codes "public")), value.Owner (codes "postgres"))
    ∷ (key.Owner (object.Relation (at (codes "public") (codes "k"))), value.Owner (codes "postgres"))
    ∷ (key.Owner (object.Relation (at (codes "public") (codes "t"))), value.Owner (codes "postgres"))
    ∷ (key.Owner (object.Relation (at (codes "public") (codes "u"))), value.Owner (codes "postgres"))
    ∷ (key.Owner (object.Database (codes "postgres")), value.Owner (codes "bob"))
    ∷ (key.Owner (object.Database (codes "u")), value.Owner (codes "postgres"))
    ∷ (key.Default (at (codes "public") (codes "t")) (codes "x"), value.DefaultText (codes "1"))
    ∷ (key.Index (at (codes "public") (codes "u")) (codes "n"), index (codes "btree") true (codes "(z) WHERE true"))
    ∷ (key.Rows (at (codes "public") (codes "t")), value.Rows ((None ∷ (Some (codes "m")) ∷ []) ∷ []))
    ∷ (key.Rows (at (codes "public") (codes "u")), value.Rows (((Some (codes "2")) ∷ []) ∷ ((Some (codes "2")) ∷ []) ∷ []))
    ∷ (key.Acl (object.Schema (codes "a")), rights (owner (codes "UC") ∷ []))
    ∷ (key.Acl (object.Schema (codes "public")), rights (owner (codes "UC") ∷ []))
    ∷ (key.Acl (object.Relation (at (codes "public") (codes "k"))), rights (owner (codes "arwdDxt") ∷ []))
    ∷ (key.Acl (object.Relation (at (codes "public") (codes "t"))), rights (owner (codes "arwdDxt") ∷ []))
    ∷ (key.Acl (object.Relation (at (codes "public") (codes "u"))), rights (owner (codes "arwdDxt") ∷ []))
    ∷ (key.Body (at (codes "public") (codes "k")), value.Body (codes "SELECT 1 FROM public.u, (public.t JOIN public.t ON true)"))
    ∷ (key.Database (codes "postgres"), value.Database encoding.Utf8)
    ∷ (key.Database (codes "u"), value.Database encoding.Utf8)
    ∷ []
