-- Runs of statements from the export of an empty cluster, each with the keys that are there at the end and their
-- values. The values were worked out by hand-written rules apart from these definitions.
use Rattle.std.specs.Prelude.{true, false, List, [], ◌∷◌, Some, None, codes, pos}
use Rattle.cat_model.specs.declared.object.Object.TheVariants as object
use Rattle.cat_model.specs.declared.key.Key.TheVariants as key
use Rattle.cat_model.specs.declared.stmt.Stmt.{Stmt}
use Rattle.cat_model.specs.declared.stmt.Stmt.TheVariants as stmt
use Rattle.cat_model.specs.declared.grant.Owned.TheVariants as owned
use Rattle.cat_model.specs.declared.grant.Granted.TheVariants as on
use Rattle.cat_model.specs.declared.grant.Commented.TheVariants as commented
use Rattle.cat_model.specs.declared.grant.Grantee.TheVariants as grantee
use Rattle.cat_model.specs.declared.constraint.ConstraintKind.TheVariants as kinds
use Rattle.cat_model.specs.declared.constraint.SequenceKind.TheVariants as sequences
use Rattle.cat_model.specs.declared.constraint.Encoding.TheVariants as encoding
use Rattle.cat_model.specs.declared.type_name.TypeName.TheVariants.{Words, Path}
use Rattle.cat_model.specs.declared.value.Value.TheVariants as value
use Rattle.model_laws.specs.Runs.{at}
use Rattle.value_runs.specs.Written.{Entries, letters, owner, public, role, rights, created_role, first_role, membership, resolved, domain, column, typed, sequence, unique_key, check, index}

abbrev pub run_five : List Stmt
run_five =
    stmt.CreateSchema (codes "a")
    ∷ stmt.CreateRole (codes "bob")
    ∷ stmt.CreateRole (codes "eve")
    ∷ stmt.CreateSequence (at (codes "a") (codes "n")) sequences.BigInt (pos 1) (pos 1) (pos 1) (pos 9223372036854775807) (pos 1) false
    ∷ stmt.CreateView (at (codes "a") (codes "m")) (codes "SELECT 1 FROM a.k, (a.n JOIN a.n ON true)")
    ∷ stmt.GrantRole (codes "eve") (codes "bob") None false (Some false) true
    ∷ stmt.SetVal (at (codes "a") (codes "n")) (pos 5) true
    ∷ stmt.SetVal (at (codes "public") (codes "u")) (pos 0) true
    ∷ stmt.GrantRole (codes "eve") (codes "postgres") None true None true
    ∷ stmt.Grant (on.Type (at (codes "public") (codes "t"))) (letters (codes "U")) grantee.Public false
    ∷ stmt.CreateTable (at (codes "public") (codes "u")) (record { name = (codes "x"); type_name = (Path (at (codes "pg_catalog") (codes "int4"))); «default» = (Some (codes "(VALUE > 0)")); not_null = false } ∷ record { name = (codes "y"); type_name = (Words (codes "character(2)")); «default» = (Some (codes "E'a\\'b'")); not_null = false } ∷ record { name = (codes "z"); type_name = (Words (codes "text")); «default» = None; not_null = false } ∷ []) []
    ∷ stmt.SetVal (at (codes "a") (codes "n")) (pos 1) true
    ∷ stmt.CreateTable (at (codes "a") (codes "v")) (record { name = (codes "z"); type_name = (Words (codes "integer")); «default» = (Some (codes "nextval('public.u'::regclass)")); not_null = false } ∷ record { name = (codes "y"); type_name = (Words (codes "integer")); «default» = (Some (codes "1")); not_null = false } ∷ []) []
    ∷ stmt.CreateIndex (at (codes "public") (codes "u")) (codes "t") (codes "btree") (codes "(y, z)")
    ∷ stmt.CreateTable (at (codes "a") (codes "u")) (record { name = (codes "z"); type_name = (Words (codes "text")); «default» = None; not_null = true } ∷ record { name = (codes "y"); type_name = (Words (codes "text")); «default» = None; not_null = true } ∷ []) []
    ∷ stmt.CreateIndex (at (codes "public") (codes "u")) (codes "v") (codes "btree") (codes "(z)")
    ∷ stmt.Connect (codes "m")
    ∷ stmt.CopyRows (at (codes "a") (codes "u")) [] (codes "1\t2\n1\t1\n")
    ∷ stmt.AddUnique (at (codes "public") (codes "u")) (codes "v") ((codes "z") ∷ []) (codes "DEFERRABLE")
    ∷ stmt.GrantRole (codes "bob") (codes "postgres") (Some (codes "bob")) false (Some false) true
    ∷ []

abbrev pub values_five : Entries
values_five =
    (key.Role (codes "bob"), created_role true)
    ∷ (key.Role (codes "eve"), created_role true)
    ∷ (key.Role (codes "postgres"), first_role true)
    ∷ (key.Member (codes "bob") (codes "postgres") (codes "bob"), membership false false true)
    ∷ (key.Member (codes "eve") (codes "bob") (codes "postgres"), membership false false true)
    ∷ (key.Member (codes "eve") (codes "postgres") (codes "postgres"), membership true true true)
    ∷ (key.Schema (codes "a"), value.Schema)
    ∷ (key.Schema (codes "public"), value.Schema)
    ∷ (key.Rel (at (codes "a") (codes "n")), sequence sequences.BigInt (pos 1) (pos 1) (pos 1) (pos 9223372036854775807) (pos 1) false)
    ∷ (key.Rel (at (codes "a") (codes "u")), value.Table (column (codes "z") (Words (codes "text")) true ∷ column (codes "y") (Words (codes "text")) true ∷ []))
    ∷ (key.Rel (at (codes "a") (codes "v")), value.Table (column (codes "z") (Words (codes "integer")) false ∷ column (codes "y") (Words (codes "integer")) false ∷ []))
    ∷ (key.Rel (at (codes "public") (codes "t")), value.IndexOf (at (codes "public") (codes "u")))
    ∷ (key.Rel (at (codes "public") (codes "u")), value.Table (column (codes "x") (Path (at (codes "pg_catalog") (codes "int4"))) false ∷ column (codes "y") (Words (codes "character(2)")) false ∷ column (codes "z") (Words (codes "text")) false ∷ []))
    ∷ (key.Rel (at (codes "public") (codes "v")), value.IndexOf (at (codes "public") (codes "u")))
    ∷ (key.Owner (object.Schema (codes "a")), value.Owner (codes "postgres"))
    ∷ (key.Owner (object.Schema (codes "public")), value.Owner (codes "postgres"))
    ∷ (key.Owner (object.Relation (at (codes "a") (codes "n"))), value.Owner (codes "postgres"))
    ∷ (key.Owner (object.Relation (at (codes "a") (codes "u"))), value.Owner (codes "postgres"))
    ∷ (key.Owner (object.Relation (at (codes "a") (codes "v"))), value.Owner (codes "postgres"))
    ∷ (key.Owner (object.Relation (at (codes "public") (codes "u"))), value.Owner (codes "postgres"))
    ∷ (key.Owner (object.Database (codes "postgres")), value.Owner (codes "postgres"))
    ∷ (key.Default (at (codes "a") (codes "v")) (codes "y"), value.DefaultText (codes "1"))
    ∷ (key.Default (at (codes "a") (codes "v")) (codes "z"), value.DefaultText (codes "nextval('public.u'::regclass)"))
    ∷ (key.Default (at (codes "public") (codes "u")) (codes "x"), value.DefaultText (codes "(VALUE > 0)"))
    ∷ (key.Default (at (codes "public") (codes "u")) (codes "y"), value.DefaultText (codes "E'a\\'b'"))
    ∷ (key.Index (at (codes "public") (codes "u")) (codes "t"), index (codes "btree") false (codes "(y, z)"))
    ∷ (key.Index (at (codes "public") (codes "u")) (codes "v"), index (codes "btree") false (codes "(z)"))
    ∷ (key.Rows (at (codes "a") (codes "u")), value.Rows (((Some (codes "1")) ∷ (Some (codes "2")) ∷ []) ∷ ((Some (codes "1")) ∷ (Some (codes "1")) ∷ []) ∷ []))
    ∷ (key.Rows (at (codes "a") (codes "v")), value.Rows [])
    ∷ (key.Rows (at (codes "public") (codes "u")), value.Rows [])
    ∷ (key.SeqVal (at (codes "a") (codes "n")), value.SequenceValue (pos 1) true)
    ∷ (key.Acl (object.Schema (codes "a")), rights (owner (codes "UC") ∷ []))
    ∷ (key.Acl (object.Schema (codes "public")), rights (owner (codes "UC") ∷ []))
    ∷ (key.Acl (object.Relation (at (codes "a") (codes "n"))), rights (owner (codes "rwU") ∷ []))
    ∷ (key.Acl (object.Relation (at (codes "a") (codes "u"))), rights (owner (codes "arwdDxt") ∷ []))
    ∷ (key.Acl (object.Relation (at (codes "a") (codes "v"))), rights (owner (codes "arwdDxt") ∷ []))
    ∷ (key.Acl (object.Relation (at (codes "public") (codes "u"))), rights (owner (codes "arwdDxt") ∷ []))
    ∷ (key.Database (codes "postgres"), value.Database encoding.Utf8)
    ∷ []

abbrev pub run_six : List Stmt
run_six =
    stmt.CreateSchema (codes "a")
    ∷ stmt.CreateRole (codes "bob")
    ∷ stmt.CreateRole (codes "eve")
    ∷ stmt.CreateSequence (at (codes "a") (codes "k")) sequences.SmallInt (pos 1) (pos 1) (pos 1) (pos 32767) (pos 1) true
    ∷ stmt.AddForeign (at (codes "public") (codes "t")) (codes "n") ((codes "x") ∷ []) (at (codes "public") (codes "t")) ((codes "y") ∷ []) []
    ∷ stmt.AddForeign (at (codes "a") (codes "k")) (codes "m") ((codes "z") ∷ []) (at (codes "public") (codes "k")) ((codes "y") ∷ []) []
    ∷ stmt.Comment (commented.View (at (codes "a") (codes "v"))) (Some (codes "hi"))
    ∷ stmt.SetVal (at (codes "a") (codes "k")) (pos 5) true
    ∷ stmt.SetDefault (at (codes "public") (codes "k")) (codes "z") (codes "'m'::public.m")
    ∷ stmt.CopyRows (at (codes "public") (codes "k")) [] (codes "1\t2\t1\n")
    ∷ stmt.AddForeign (at (codes "a") (codes "t")) (codes "u") ((codes "y") ∷ []) (at (codes "public") (codes "n")) ((codes "y") ∷ []) []
    ∷ stmt.Connect (codes "u")
    ∷ stmt.AddUnique (at (codes "public") (codes "n")) (codes "u") ((codes "z") ∷ []) []
    ∷ stmt.Comment (commented.Type (at (codes "public") (codes "v"))) (Some (codes "hi"))
    ∷ stmt.GrantRole (codes "bob") (codes "postgres") None false None true
    ∷ stmt.CreateTable (at (codes "a") (codes "u")) (record { name = (codes "x"); type_name = (Path (at (codes "pg_catalog") (codes "int4"))); «default» = None; not_null = false } ∷ record { name = (codes "y"); type_name = (Words (codes "integer")); «default» = None; not_null = false } ∷ []) (record { name = (codes "k"); text = (codes "1") } ∷ [])
    ∷ stmt.CreateSequence (at (codes "public") (codes "m")) sequences.BigInt (pos 1) (pos 1) (pos 1) (pos 9223372036854775807) (pos 1) false
    ∷ stmt.CreateTable (at (codes "a") (codes "n")) (record { name = (codes "x"); type_name = (Words (codes "text")); «default» = None; not_null = true } ∷ record { name = (codes "y"); type_name = (Words (codes "integer")); «default» = (Some (codes "nextval('a.m'::regclass)")); not_null = true } ∷ []) (record { name = (codes "k"); text = (codes "(VALUE > 0)") } ∷ [])
    ∷ stmt.CreateUniqueIndex (at (codes "a") (codes "u")) (codes "t") (codes "btree") (codes "(y) WHERE true")
    ∷ stmt.CreateView (at (codes "public") (codes "v")) (codes "SELECT 1 FROM a.u, (public.m JOIN a.u ON true)")
    ∷ stmt.GrantRole (codes "postgres") (codes "bob") (Some (codes "eve")) false None true
    ∷ stmt.CreateDatabase (codes "m") None
    ∷ stmt.Revoke (on.Sequence (at (codes "a") (codes "k"))) (letters (codes "rwU")) (grantee.Role (codes "postgres"))
    ∷ stmt.CreateEnum (at (codes "public") (codes "u")) ((codes "m") ∷ [])
    ∷ stmt.CreateDomain (at (codes "public") (codes "u")) (Words (codes "text")) false None []
    ∷ stmt.Grant (on.Schema (codes "a")) (letters (codes "UC")) (grantee.Role (codes "bob")) true
    ∷ stmt.CreateTable (at (codes "public") (codes "t")) (record { name = (codes "x"); type_name = (Words (codes "text")); «default» = None; not_null = true } ∷ record { name = (codes "z"); type_name = (Words (codes "character(2)")); «default» = (Some (codes "(VALUE > 0)")); not_null = true } ∷ record { name = (codes "y"); type_name = (Words (codes "text")); «default» = None; not_null = true } ∷ []) []
    ∷ []

abbrev pub values_six : Entries
values_six =
    (key.Role (codes "bob"), created_role true)
    ∷ (key.Role (codes "eve"), created_role true)
    ∷ (key.Role (codes "postgres"), first_role true)
    ∷ (key.Member (codes "bob") (codes "postgres") (codes "postgres"), membership false true true)
    ∷ (key.Member (codes "postgres") (codes "bob") (codes "eve"), membership false true true)
    ∷ (key.Schema (codes "a"), value.Schema)
    ∷ (key.Schema (codes "public"), value.Schema)
    ∷ (key.UserType (at (codes "public") (codes "u")), value.Enum ((codes "m") ∷ []))
    ∷ (key.Rel (at (codes "a") (codes "k")), sequence sequences.SmallInt (pos 1) (pos 1) (pos 1) (pos 32767) (pos 1) true)
    ∷ (key.Rel (at (codes "a") (codes "t")), value.IndexOf (at (codes "a") (codes "u")))
    ∷ (key.Rel (at (codes "a") (codes "u")), value.Table (column (codes "x") (Path (at (codes "pg_catalog") (codes "int4"))) false ∷ column (codes "y") (Words (codes "integer")) false ∷ []))
    ∷ (key.Rel (at (codes "public") (codes "m")), sequence sequences.BigInt (pos 1) (pos 1) (pos 1) (pos 9223372036854775807) (pos 1) false)
    ∷ (key.Rel (at (codes "public") (codes "t")), value.Table (column (codes "x") (Words (codes "text")) true ∷ column (codes "z") (Words (codes "character(2)")) true ∷ column (codes "y") (Words (codes "text")) true ∷ []))
    ∷ (key.Rel (at (codes "public") (codes "v")), value.View)
    ∷ (key.Owner (object.Schema (codes "a")), value.Owner (codes "postgres"))
    ∷ (key.Owner (object.Schema (codes "public")), value.Owner (codes "postgres"))
    ∷ (key.Owner (object.Type (at (codes "public") (codes "u"))), value.Owner (codes "postgres"))
    ∷ (key.Owner (object.Relation (at (codes "a") (codes "k"))), value.Owner (codes "postgres"))
    ∷ (key.Owner (object.Relation (at (codes "a") (codes "u"))), value.Owner (codes "postgres"))
    ∷ (key.Owner (object.Relation (at (codes "public") (codes "m"))), value.Owner (codes "postgres"))
    ∷ (key.Owner (object.Relation (at (codes "public") (codes "t"))), value.Owner (codes "postgres"))
    ∷ (key.Owner (object.Relation (at (codes "public") (codes "v"))), value.Owner (codes "postgres"))
    ∷ (key.Owner (object.Database (codes "m")), value.Owner (codes "postgres"))
    ∷ (key.Owner (object.Database (codes "postgres")), value.Owner (codes "postgres"))
    ∷ (key.Default (at (codes "public") (codes "t")) (codes "z"), value.DefaultText (codes "(VALUE > 0)"))
    ∷ (key.Con (at (codes "a") (codes "u")) (codes "k"), check (codes "1"))
    ∷ (key.Index (at (codes "a") (codes "u")) (codes "t"), index (codes "btree") true (codes "(y) WHERE true"))
    ∷ (key.Rows (at (codes "a") (codes "u")), value.Rows [])
    ∷ (key.Rows (at (codes "public") (codes "t")), value.Rows [])
    ∷ (key.SeqVal (at (codes "a") (codes "k")), value.SequenceValue (pos 5) true)
    ∷ (key.SeqVal (at (codes "public") (codes "m")), value.SequenceValue (pos 1) false)
    ∷ (key.Acl (object.Schema (codes "a")), rights (owner (codes "UC") ∷ role (codes "bob") (codes "U*C*") ∷ []))
    ∷ (key.Acl (object.Schema (codes "public")), rights (owner (codes "UC") ∷ []))
    ∷ (key.Acl (object.Type (at (codes "public") (codes "u"))), rights (owner (codes "U") ∷ public (codes "U") ∷ []))
    ∷ (key.Acl (object.Relation (at (codes "a") (codes "k"))), rights [])
    ∷ (key.Acl (object.Relation (at (codes "a") (codes "u"))), rights (owner (codes "arwdDxt") ∷ []))
    ∷ (key.Acl (object.Relation (at (codes "public") (codes "m"))), rights (owner (codes "rwU") ∷ []))
    ∷ (key.Acl (object.Relation (at (codes "public") (codes "t"))), rights (owner (codes "arwdDxt") ∷ []))
    ∷ (key.Acl (object.Relation (at (codes "public") (codes "v"))), rights (owner (codes "arwdDxt") ∷ []))
    ∷ (key.Body (at (codes "public") (codes "v")), value.Body (codes "SELECT 1 FROM a.u, (public.m JOIN a.u ON true)"))
    ∷ (key.Database (codes "m"), value.Database encoding.Utf8)
    ∷ (key.Database (codes "postgres"), value.Database encoding.Utf8)
    ∷ []

abbrev pub run_seven : List Stmt
run_seven =
    stmt.CreateSchema (codes "a")
    ∷ stmt.CreateRole (codes "bob")
    ∷ stmt.CreateRole (codes "eve")
    ∷ stmt.CopyRows (at (codes "a") (codes "u")) [] (codes "2\n")
    ∷ stmt.CreateSequence (at (codes "a") (codes "n")) sequences.BigInt (pos 0) (pos 1) (pos 1) (pos 9223372036854775807) (pos 1) false
    ∷ stmt.CreateView (at (codes "public") (codes "u")) (codes "SELECT 1 FROM a.k, (public.t JOIN public.t ON true)")
    ∷ stmt.OwnerTo (owned.Schema (codes "public")) (codes "eve")
    ∷ stmt.CreateTable (at (codes "a") (codes "t")) (record { name = (codes "y"); type_name = (Words (codes "text")); «default» = (Some (codes "nextval('a.v'::regclass)")); not_null = false } ∷ record { name = (codes "z"); type_name = (Words (codes "character(2)")); «default» = (Some (codes "E'a\\'b'")); not_null = false } ∷ record { name = (codes "x"); type_name = (Words (codes "integer")); «default» = (Some (codes "nextval('a.k'::regclass)")); not_null = false } ∷ []) []
    ∷ stmt.CreateSchema (codes "public")
    ∷ stmt.CreateDomain (at (codes "a") (codes "m")) (Words (codes "character(2)")) false None []
    ∷ stmt.CreateSequence (at (codes "public") (codes "u")) sequences.BigInt (pos 1) (pos 1) (pos 1) (pos 9223372036854775807) (pos 1) false
    ∷ stmt.CreateDatabase (codes "m") None
    ∷ stmt.CreateTable (at (codes "public") (codes "m")) (record { name = (codes "y"); type_name = (Words (codes "text")); «default» = None; not_null = true } ∷ record { name = (codes "x"); type_name = (Words (codes "text")); «default» = None; not_null = false } ∷ []) (record { name = (codes "v"); text = (codes "'m'::a.m") } ∷ record { name = (codes "v"); text = (codes "(VALUE > 0)") } ∷ [])
    ∷ stmt.CreateTable (at (codes "a") (codes "u")) (record { name = (codes "x"); type_name = (Words (codes "character(2)")); «default» = None; not_null = false } ∷ []) []
    ∷ stmt.AddDomainCheck (at (codes "a") (codes "m")) (codes "k") (codes "1")
    ∷ stmt.AddPrimary (at (codes "a") (codes "u")) (codes "k") ((codes "z") ∷ []) []
    ∷ stmt.CreateUniqueIndex (at (codes "a") (codes "u")) (codes "t") (codes "btree") (codes "(y, x) WHERE true")
    ∷ stmt.SetVal (at (codes "public") (codes "u")) (pos 1) true
    ∷ stmt.CreateIndex (at (codes "a") (codes "u")) (codes "t") (codes "btree") (codes "(y)")
    ∷ []

abbrev pub values_seven : Entries
values_seven =
    (key.Role (codes "bob"), created_role true)
    ∷ (key.Role (codes "eve"), created_role true)
    ∷ (key.Role (codes "postgres"), first_role true)
    ∷ (key.Schema (codes "a"), value.Schema)
    ∷ (key.Schema (codes "public"), value.Schema)
    ∷ (key.UserType (at (codes "a") (codes "m")), domain (Words (codes "character(2)")) (resolved (Words (codes "character(2)")) None false) false None (((codes "k"), (codes "1")) ∷ []))
    ∷ (key.Rel (at (codes "a") (codes "t")), value.IndexOf (at (codes "a") (codes "u")))
    ∷ (key.Rel (at (codes "a") (codes "u")), value.Table (column (codes "x") (Words (codes "character(2)")) false ∷ []))
    ∷ (key.Rel (at (codes "public") (codes "u")), sequence sequences.BigInt (pos 1) (pos 1) (pos 1) (pos 9223372036854775807) (pos 1) false)
    ∷ (key.Owner (object.Schema (codes "a")), value.Owner (codes "postgres"))
    ∷ (key.Owner (object.Schema (codes "public")), value.Owner (codes "eve"))
    ∷ (key.Owner (object.Type (at (codes "a") (codes "m"))), value.Owner (codes "postgres"))
    ∷ (key.Owner (object.Relation (at (codes "a") (codes "u"))), value.Owner (codes "postgres"))
    ∷ (key.Owner (object.Relation (at (codes "public") (codes "u"))), value.Owner (codes "postgres"))
    ∷ (key.Owner (object.Database (codes "m")), value.Owner (codes "postgres"))
    ∷ (key.Owner (object.Database (codes "postgres")), value.Owner (codes "postgres"))
    ∷ (key.Index (at (codes "a") (codes "u")) (codes "t"), index (codes "btree") true (codes "(y, x) WHERE true"))
    ∷ (key.Rows (at (codes "a") (codes "u")), value.Rows [])
    ∷ (key.SeqVal (at (codes "public") (codes "u")), value.SequenceValue (pos 1) true)
    ∷ (key.Acl (object.Schema (codes "a")), rights (owner (codes "UC") ∷ []))
    ∷ (key.Acl (object.Schema (codes "public")), rights (owner (codes "UC") ∷ []))
    ∷ (key.Acl (object.Type (at (codes "a") (codes "m"))), rights (owner (codes "U") ∷ public (codes "U") ∷ []))
    ∷ (key.Acl (object.Relation (at (codes "a") (codes "u"))), rights (owner (codes "arwdDxt") ∷ []))
    ∷ (key.Acl (object.Relation (at (codes "public") (codes "u"))), rights (owner (codes "rwU") ∷ []))
    ∷ (key.Database (codes "m"), value.Database encoding.Utf8)
    ∷ (key.Database (codes "postgres"), value.Database encoding.Utf8)
    ∷ []

abbrev pub run_eight : List Stmt
run_eight =
    stmt.CreateSchema (codes "a")
    ∷ stmt.CreateRole (codes "bob")
    ∷ stmt.CreateRole (codes "eve")
    ∷ stmt.CopyRows (at (codes "public") (codes "m")) ((codes "z") ∷ []) []
    ∷ stmt.ReplaceView (at (codes "a") (codes "n")) (codes "SELECT 1 FROM public.m, (a.n JOIN a.m ON true)")
    ∷ stmt.CreateUniqueIndex (at (codes "public") (codes "k")) (codes "u") (codes "btree") (codes "(y) WHERE true")
    ∷ stmt.Grant (on.Type (at (codes "public") (codes "n"))) (letters (codes "U")) grantee.Public true
    ∷ stmt.CreateDatabase (codes "v") None
    ∷ stmt.CreateDomain (at (codes "public") (codes "v")) (Words (codes "integer")) true (Some (codes "E'a\\'b'")) []
    ∷ stmt.CopyRows (at (codes "public") (codes "t")) [] (codes "m\t3\n")
    ∷ stmt.CreateTable (at (codes "public") (codes "n")) (record { name = (codes "x"); type_name = (Words (codes "character(2)")); «default» = (Some (codes "'m'::public.v")); not_null = false } ∷ record { name = (codes "z"); type_name = (Words (codes "character(2)")); «default» = None; not_null = true } ∷ []) (record { name = (codes "v"); text = (codes "(VALUE > 0)") } ∷ record { name = (codes "n"); text = (codes "1") } ∷ [])
    ∷ stmt.CreateTable (at (codes "a") (codes "t")) (record { name = (codes "x"); type_name = (Path (at (codes "pg_catalog") (codes "int4"))); «default» = (Some (codes "(VALUE > 0)")); not_null = false } ∷ []) []
    ∷ stmt.CreateTable (at (codes "public") (codes "t")) (record { name = (codes "z"); type_name = (Path (at (codes "public") (codes "v"))); «default» = (Some (codes "1")); not_null = false } ∷ record { name = (codes "y"); type_name = (Words (codes "integer")); «default» = (Some (codes "E'a\\'b'")); not_null = false } ∷ record { name = (codes "x"); type_name = (Words (codes "text")); «default» = None; not_null = false } ∷ []) []
    ∷ stmt.AddPrimary (at (codes "public") (codes "n")) (codes "v") ((codes "x") ∷ []) []
    ∷ stmt.Revoke (on.Type (at (codes "public") (codes "v"))) (letters (codes "U")) grantee.Public
    ∷ stmt.AddUnique (at (codes "public") (codes "n")) (codes "u") ((codes "x") ∷ (codes "z") ∷ []) (codes "DEFERRABLE")
    ∷ stmt.CreateIndex (at (codes "public") (codes "n")) (codes "k") (codes "btree") (codes "(z, x)")
    ∷ stmt.Comment (commented.Schema (codes "public")) (Some (codes "hi"))
    ∷ stmt.CreateRole (codes "bob")
    ∷ stmt.AlterRole (codes "eve") (record { superuser = None; inherit = (Some false); create_role = None; create_db = None; login = None; replication = None; bypass_rls = None; limit = None; password = None; valid_until = None })
    ∷ stmt.CreateIndex (at (codes "a") (codes "k")) (codes "u") (codes "btree") (codes "(x)")
    ∷ stmt.CreateTable (at (codes "a") (codes "m")) (record { name = (codes "z"); type_name = (Words (codes "integer")); «default» = None; not_null = true } ∷ record { name = (codes "x"); type_name = (Words (codes "integer")); «default» = None; not_null = true } ∷ record { name = (codes "y"); type_name = (Words (codes "integer")); «default» = (Some (codes "'m'::public.v")); not_null = false } ∷ []) []
    ∷ stmt.Grant (on.Schema (codes "a")) (letters (codes "UC")) (grantee.Role (codes "eve")) true
    ∷ stmt.CreateEnum (at (codes "public") (codes "m")) ((codes "m") ∷ (codes "1") ∷ [])
    ∷ []

abbrev pub values_eight : Entries
values_eight =
    (key.Role (codes "bob"), created_role true)
    ∷ (key.Role (codes "eve"), created_role false)
    ∷ (key.Role (codes "postgres"), first_role true)
    ∷ (key.Schema (codes "a"), value.Schema)
    ∷ (key.Schema (codes "public"), value.Schema)
    ∷ (key.UserType (at (codes "public") (codes "m")), value.Enum ((codes "m") ∷ (codes "1") ∷ []))
    ∷ (key.UserType (at (codes "public") (codes "v")), domain (Words (codes "integer")) (resolved (Words (codes "integer")) None false) true (Some (codes "E'a\\'b'")) [])
    ∷ (key.Rel (at (codes "a") (codes "m")), value.Table (column (codes "z") (Words (codes "integer")) true ∷ column (codes "x") (Words (codes "integer")) true ∷ column (codes "y") (Words (codes "integer")) false ∷ []))
    ∷ (key.Rel (at (codes "a") (codes "t")), value.Table (column (codes "x") (Path (at (codes "pg_catalog") (codes "int4"))) false ∷ []))
    ∷ (key.Rel (at (codes "public") (codes "k")), value.IndexOf (at (codes "public") (codes "n")))
    ∷ (key.Rel (at (codes "public") (codes "n")), value.Table (column (codes "x") (Words (codes "character(2)")) false ∷ column (codes "z") (Words (codes "character(2)")) true ∷ []))
    ∷ (key.Rel (at (codes "public") (codes "t")), value.Table (typed (codes "z") (Path (at (codes "public") (codes "v"))) (resolved (Words (codes "integer")) None true) false ∷ column (codes "y") (Words (codes "integer")) false ∷ column (codes "x") (Words (codes "text")) false ∷ []))
    ∷ (key.Rel (at (codes "public") (codes "u")), value.IndexOf (at (codes "public") (codes "n")))
    ∷ (key.Owner (object.Schema (codes "a")), value.Owner (codes "postgres"))
    ∷ (key.Owner (object.Schema (codes "public")), value.Owner (codes "postgres"))
    ∷ (key.Owner (object.Type (at (codes "public") (codes "m"))), value.Owner (codes "postgres"))
    ∷ (key.Owner (object.Type (at (codes "public") (codes "v"))), value.Owner (codes "postgres"))
    ∷ (key.Owner (object.Relation (at (codes "a") (codes "m"))), value.Owner (codes "postgres"))
    ∷ (key.Owner (object.Relation (at (codes "a") (codes "t"))), value.Owner (codes "postgres"))
    ∷ (key.Owner (object.Relation (at (codes "public") (codes "n"))), value.Owner (codes "postgres"))
    ∷ (key.Owner (object.Relation (at (codes "public") (codes "t"))), value.Owner (codes "postgres"))
    ∷ (key.Owner (object.Database (codes "postgres")), value.Owner (codes "postgres"))
    ∷ (key.Owner (object.Database (codes "v")), value.Owner (codes "postgres"))
    ∷ (key.Default (at (codes "a") (codes "m")) (codes "y"), value.DefaultText (codes "'m'::public.v"))
    ∷ (key.Default (at (codes "a") (codes "t")) (codes "x"), value.DefaultText (codes "(VALUE > 0)"))
    ∷ (key.Default (at (codes "public") (codes "n")) (codes "x"), value.DefaultText (codes "'m'::public.v"))
    ∷ (key.Default (at (codes "public") (codes "t")) (codes "y"), value.DefaultText (codes "E'a\\'b'"))
    ∷ (key.Default (at (codes "public") (codes "t")) (codes "z"), value.DefaultText (codes "1"))
    ∷ (key.Con (at (codes "public") (codes "n")) (codes "n"), check (codes "1"))
    ∷ (key.Con (at (codes "public") (codes "n")) (codes "u"), unique_key kinds.Unique ((codes "x") ∷ (codes "z") ∷ []) (codes "DEFERRABLE"))
    ∷ (key.Con (at (codes "public") (codes "n")) (codes "v"), check (codes "(VALUE > 0)"))
    ∷ (key.Index (at (codes "public") (codes "n")) (codes "k"), index (codes "btree") false (codes "(z, x)"))
    ∷ (key.Rows (at (codes "a") (codes "m")), value.Rows [])
    ∷ (key.Rows (at (codes "a") (codes "t")), value.Rows [])
    ∷ (key.Rows (at (codes "public") (codes "n")), value.Rows [])
    ∷ (key.Rows (at (codes "public") (codes "t")), value.Rows [])
    ∷ (key.Acl (object.Schema (codes "a")), rights (owner (codes "UC") ∷ role (codes "eve") (codes "U*C*") ∷ []))
    ∷ (key.Acl (object.Schema (codes "public")), rights (owner (codes "UC") ∷ []))
    ∷ (key.Acl (object.Type (at (codes "public") (codes "m"))), rights (owner (codes "U") ∷ public (codes "U") ∷ []))
    ∷ (key.Acl (object.Type (at (codes "public") (codes "v"))), rights (owner (codes "U") ∷ []))
    ∷ (key.Acl (object.Relation (at (codes "a") (codes "m"))), rights (owner (codes "arwdDxt") ∷ []))
    ∷ (key.Acl (object.Relation (at (codes "a") (codes "t"))), rights (owner (codes "arwdDxt") ∷ []))
    ∷ (key.Acl (object.Relation (at (codes "public") (codes "n"))), rights (owner (codes "arwdDxt") ∷ []))
    ∷ (key.Acl (object.Relation (at (codes "public") (codes "t"))), rights (owner (codes "arwdDxt") ∷ []))
    ∷ (key.Comment (object.Schema (codes "public")), value.Comment (codes "hi"))
    ∷ (key.Database (codes "postgres"), value.Database encoding.Utf8)
    ∷ (key.Database (codes "v"), value.Database encoding.Utf8)
    ∷ []
