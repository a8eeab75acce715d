-- Runs of statements from the export of an empty cluster, each with the keys that are there at the end and their
-- values. The values were worked out by hand-written rules apart from these definitions.
use Rattle.std.specs.Prelude.{true, false, List, [], ◌∷◌, Some, None, codes, pos, negsuc}
use Rattle.cat_model.specs.declared.object.Object.TheVariants as object
use Rattle.cat_model.specs.declared.key.Key.TheVariants as key
use Rattle.cat_model.specs.declared.stmt.Stmt.{Stmt}
use Rattle.cat_model.specs.declared.stmt.Stmt.TheVariants as stmt
use Rattle.cat_model.specs.declared.grant.Owned.TheVariants as owned
use Rattle.cat_model.specs.declared.grant.Granted.TheVariants as on
use Rattle.cat_model.specs.declared.grant.Commented.TheVariants as commented
use Rattle.cat_model.specs.declared.grant.Grantee.TheVariants as grantee
use Rattle.cat_model.specs.declared.constraint.ConstraintKind.TheVariants as kinds
use Rattle.cat_model.specs.declared.constraint.SequenceKind.TheVariants as sequences
use Rattle.cat_model.specs.declared.constraint.Encoding.TheVariants as encoding
use Rattle.cat_model.specs.declared.type_name.TypeName.TheVariants.{Words, Path}
use Rattle.cat_model.specs.declared.value.Value.TheVariants as value
use Rattle.model_laws.specs.Runs.{at}
use Rattle.value_runs.specs.Written.{Entries, letters, owner, public, role, rights, created_role, first_role, membership, resolved, domain, column, sequence, unique_key, check, index}

abbrev pub run_one : List Stmt
run_one =
    stmt.CreateSchema (codes "a")
    ∷ stmt.CreateRole (codes "bob")
    ∷ stmt.CreateRole (codes "eve")
    ∷ stmt.Connect (codes "m")
    ∷ stmt.CreateSequence (at (codes "a") (codes "m")) sequences.BigInt (pos 1) (pos 1) (pos 1) (pos 9223372036854775807) (pos 1) false
    ∷ stmt.AlterRole (codes "postgres") (record { superuser = None; inherit = (Some true); create_role = None; create_db = None; login = None; replication = None; bypass_rls = None; limit = None; password = None; valid_until = None })
    ∷ stmt.CopyRows (at (codes "a") (codes "k")) ((codes "z") ∷ (codes "y") ∷ (codes "x") ∷ []) []
    ∷ stmt.AddCheck (at (codes "a") (codes "t")) (codes "m") (codes "(VALUE > 0)")
    ∷ stmt.Connect (codes "t")
    ∷ stmt.CreateTable (at (codes "a") (codes "n")) (record { name = (codes "z"); type_name = (Words (codes "text")); «default» = None; not_null = false } ∷ record { name = (codes "x"); type_name = (Path (at (codes "pg_catalog") (codes "int4"))); «default» = (Some (codes "1")); not_null = false } ∷ []) []
    ∷ stmt.CreateRole (codes "eve")
    ∷ stmt.CreateTable (at (codes "a") (codes "t")) (record { name = (codes "z"); type_name = (Words (codes "character(2)")); «default» = (Some (codes "1")); not_null = false } ∷ record { name = (codes "y"); type_name = (Words (codes "integer")); «default» = (Some (codes "E'a\\'b'")); not_null = true } ∷ []) (record { name = (codes "n"); text = (codes "(VALUE > 0)") } ∷ [])
    ∷ stmt.Comment (commented.Domain (at (codes "a") (codes "n"))) (Some [])
    ∷ stmt.SetVal (at (codes "a") (codes "k")) (pos 1) true
    ∷ stmt.CreateRole (codes "bob")
    ∷ stmt.OwnedBy (at (codes "a") (codes "m")) (at (codes "a") (codes "t")) (codes "y")
    ∷ stmt.AddCheck (at (codes "a") (codes "t")) (codes "u") (codes "(VALUE > 0)")
    ∷ stmt.AddPrimary (at (codes "a") (codes "n")) (codes "u") ((codes "z") ∷ []) []
    ∷ stmt.AddUnique (at (codes "a") (codes "t")) (codes "v") ((codes "y") ∷ []) (codes "DEFERRABLE")
    ∷ stmt.CreateTable (at (codes "public") (codes "k")) (record { name = (codes "z"); type_name = (Words (codes "integer")); «default» = (Some (codes "1")); not_null = false } ∷ record { name = (codes "y"); type_name = (Words (codes "integer")); «default» = None; not_null = false } ∷ []) (record { name = (codes "v"); text = (codes "E'a\\'b'") } ∷ record { name = (codes "k"); text = (codes "(VALUE > 0)") } ∷ [])
    ∷ stmt.AlterRole (codes "eve") (record { superuser = None; inherit = (Some false); create_role = None; create_db = None; login = None; replication = None; bypass_rls = None; limit = None; password = None; valid_until = None })
    ∷ stmt.OwnerTo (owned.Schema (codes "public")) (codes "bob")
    ∷ stmt.CreateSequence (at (codes "public") (codes "u")) sequences.BigInt (negsuc 0) (negsuc 0) (negsuc 9223372036854775807) (negsuc 0) (pos 1) false
    ∷ []

abbrev pub values_one : Entries
values_one =
    (key.Role (codes "bob"), created_role true)
    ∷ (key.Role (codes "eve"), created_role false)
    ∷ (key.Role (codes "postgres"), first_role true)
    ∷ (key.Schema (codes "a"), value.Schema)
    ∷ (key.Schema (codes "public"), value.Schema)
    ∷ (key.Rel (at (codes "a") (codes "m")), sequence sequences.BigInt (pos 1) (pos 1) (pos 1) (pos 9223372036854775807) (pos 1) false)
    ∷ (key.Rel (at (codes "a") (codes "n")), value.Table (column (codes "z") (Words (codes "text")) false ∷ column (codes "x") (Path (at (codes "pg_catalog") (codes "int4"))) false ∷ []))
    ∷ (key.Rel (at (codes "a") (codes "t")), value.Table (column (codes "z") (Words (codes "character(2)")) false ∷ column (codes "y") (Words (codes "integer")) true ∷ []))
    ∷ (key.Rel (at (codes "a") (codes "u")), value.IndexOf (at (codes "a") (codes "n")))
    ∷ (key.Rel (at (codes "a") (codes "v")), value.IndexOf (at (codes "a") (codes "t")))
    ∷ (key.Rel (at (codes "public") (codes "k")), value.Table (column (codes "z") (Words (codes "integer")) false ∷ column (codes "y") (Words (codes "integer")) false ∷ []))
    ∷ (key.Rel (at (codes "public") (codes "u")), sequence sequences.BigInt (negsuc 0) (negsuc 0) (negsuc 9223372036854775807) (negsuc 0) (pos 1) false)
    ∷ (key.Owner (object.Schema (codes "a")), value.Owner (codes "postgres"))
    ∷ (key.Owner (object.Schema (codes "public")), value.Owner (codes "bob"))
    ∷ (key.Owner (object.Relation (at (codes "a") (codes "m"))), value.Owner (codes "postgres"))
    ∷ (key.Owner (object.Relation (at (codes "a") (codes "n"))), value.Owner (codes "postgres"))
    ∷ (key.Owner (object.Relation (at (codes "a") (codes "t"))), value.Owner (codes "postgres"))
    ∷ (key.Owner (object.Relation (at (codes "public") (codes "k"))), value.Owner (codes "postgres"))
    ∷ (key.Owner (object.Relation (at (codes "public") (codes "u"))), value.Owner (codes "postgres"))
    ∷ (key.Owner (object.Database (codes "postgres")), value.Owner (codes "postgres"))
    ∷ (key.Default (at (codes "a") (codes "n")) (codes "x"), value.DefaultText (codes "1"))
    ∷ (key.Default (at (codes "a") (codes "t")) (codes "y"), value.DefaultText (codes "E'a\\'b'"))
    ∷ (key.Default (at (codes "a") (codes "t")) (codes "z"), value.DefaultText (codes "1"))
    ∷ (key.Default (at (codes "public") (codes "k")) (codes "z"), value.DefaultText (codes "1"))
    ∷ (key.Con (at (codes "a") (codes "n")) (codes "u"), unique_key kinds.Primary ((codes "z") ∷ []) [])
    ∷ (key.Con (at (codes "a") (codes "t")) (codes "n"), check (codes "(VALUE > 0)"))
    ∷ (key.Con (at (codes "a") (codes "t")) (codes "u"), check (codes "(VALUE > 0)"))
    ∷ (key.Con (at (codes "a") (codes "t")) (codes "v"), unique_key kinds.Unique ((codes "y") ∷ []) (codes "DEFERRABLE"))
    ∷ (key.Con (at (codes "public") (codes "k")) (codes "k"), check (codes "(VALUE > 0)"))
    ∷ (key.Con (at (codes "public") (codes "k")) (codes "v"), check (codes "E'a\\'b'"))
    ∷ (key.Rows (at (codes "a") (codes "n")), value.Rows [])
    ∷ (key.Rows (at (codes "a") (codes "t")), value.Rows [])
    ∷ (key.Rows (at (codes "public") (codes "k")), value.Rows [])
    ∷ (key.SeqVal (at (codes "a") (codes "m")), value.SequenceValue (pos 1) false)
    ∷ (key.SeqVal (at (codes "public") (codes "u")), value.SequenceValue (negsuc 0) false)
    ∷ (key.OwnedBy (at (codes "a") (codes "m")), value.OwnedBy (at (codes "a") (codes "t")) (codes "y"))
    ∷ (key.Acl (object.Schema (codes "a")), rights (owner (codes "UC") ∷ []))
    ∷ (key.Acl (object.Schema (codes "public")), rights (owner (codes "UC") ∷ []))
    ∷ (key.Acl (object.Relation (at (codes "a") (codes "m"))), rights (owner (codes "rwU") ∷ []))
    ∷ (key.Acl (object.Relation (at (codes "a") (codes "n"))), rights (owner (codes "arwdDxt") ∷ []))
    ∷ (key.Acl (object.Relation (at (codes "a") (codes "t"))), rights (owner (codes "arwdDxt") ∷ []))
    ∷ (key.Acl (object.Relation (at (codes "public") (codes "k"))), rights (owner (codes "arwdDxt") ∷ []))
    ∷ (key.Acl (object.Relation (at (codes "public") (codes "u"))), rights (owner (codes "rwU") ∷ []))
    ∷ (key.Database (codes "postgres"), value.Database encoding.Utf8)
    ∷ []

abbrev pub run_two : List Stmt
run_two =
    stmt.CreateSchema (codes "a")
    ∷ stmt.CreateRole (codes "bob")
    ∷ stmt.CreateRole (codes "eve")
    ∷ stmt.CreateDomain (at (codes "a") (codes "v")) (Words (codes "character(2)")) false None []
    ∷ stmt.Comment (commented.View (at (codes "a") (codes "v"))) None
    ∷ stmt.CreateDomain (at (codes "a") (codes "n")) (Path (at (codes "a") (codes "v"))) true (Some (codes "E'a\\'b'")) []
    ∷ stmt.CreateTable (at (codes "public") (codes "k")) (record { name = (codes "x"); type_name = (Words (codes "integer")); «default» = (Some (codes "E'a\\'b'")); not_null = true } ∷ record { name = (codes "y"); type_name = (Words (codes "text")); «default» = None; not_null = false } ∷ []) []
    ∷ stmt.Comment (commented.Table (at (codes "public") (codes "k"))) (Some (codes "hi"))
    ∷ stmt.Grant (on.Table (at (codes "public") (codes "k"))) (letters (codes "arwdDxt")) grantee.Public true
    ∷ stmt.CreateDomain (at (codes "public") (codes "m")) (Words (codes "text")) false None (record { name = (codes "m"); text = (codes "1") } ∷ [])
    ∷ stmt.AddPrimary (at (codes "public") (codes "k")) (codes "n") ((codes "y") ∷ []) []
    ∷ stmt.CreateSequence (at (codes "a") (codes "n")) sequences.SmallInt (pos 1) (pos 1) (pos 1) (pos 32767) (pos 1) true
    ∷ stmt.CreateUniqueIndex (at (codes "public") (codes "k")) (codes "u") (codes "btree") (codes "(y) WHERE true")
    ∷ stmt.AddPrimary (at (codes "a") (codes "m")) (codes "t") ((codes "z") ∷ []) []
    ∷ stmt.CreateEnum (at (codes "a") (codes "k")) []
    ∷ stmt.CreateSequence (at (codes "a") (codes "n")) sequences.BigInt (pos 0) (pos 1) (pos 1) (pos 9223372036854775807) (pos 1) false
    ∷ stmt.SetDefault (at (codes "public") (codes "k")) (codes "x") (codes "1")
    ∷ stmt.OwnerTo (owned.Type (at (codes "a") (codes "u"))) (codes "eve")
    ∷ stmt.SetDefault (at (codes "public") (codes "k")) (codes "x") (codes "1")
    ∷ stmt.Grant (on.Table (at (codes "public") (codes "k"))) (letters (codes "x")) (grantee.Role (codes "bob")) false
    ∷ stmt.AddPrimary (at (codes "public") (codes "k")) (codes "u") ((codes "x") ∷ []) []
    ∷ stmt.AddForeign (at (codes "public") (codes "k")) (codes "u") ((codes "z") ∷ []) (at (codes "public") (codes "k")) ((codes "y") ∷ []) []
    ∷ stmt.CreateTable (at (codes "public") (codes "v")) (record { name = (codes "y"); type_name = (Words (codes "integer")); «default» = (Some (codes "'m'::a.k")); not_null = true } ∷ record { name = (codes "x"); type_name = (Words (codes "integer")); «default» = None; not_null = true } ∷ []) (record { name = (codes "u"); text = (codes "(VALUE > 0)") } ∷ [])
    ∷ []

abbrev pub values_two : Entries
values_two =
    (key.Role (codes "bob"), created_role true)
    ∷ (key.Role (codes "eve"), created_role true)
    ∷ (key.Role (codes "postgres"), first_role true)
    ∷ (key.Schema (codes "a"), value.Schema)
    ∷ (key.Schema (codes "public"), value.Schema)
    ∷ (key.UserType (at (codes "a") (codes "k")), value.Enum [])
    ∷ (key.UserType (at (codes "a") (codes "n")), domain (Path (at (codes "a") (codes "v"))) (resolved (Words (codes "character(2)")) None false) true (Some (codes "E'a\\'b'")) [])
    ∷ (key.UserType (at (codes "a") (codes "v")), domain (Words (codes "character(2)")) (resolved (Words (codes "character(2)")) None false) false None [])
    ∷ (key.UserType (at (codes "public") (codes "m")), domain (Words (codes "text")) (resolved (Words (codes "text")) None false) false None (((codes "m"), (codes "1")) ∷ []))
    ∷ (key.Rel (at (codes "a") (codes "n")), sequence sequences.SmallInt (pos 1) (pos 1) (pos 1) (pos 32767) (pos 1) true)
    ∷ (key.Rel (at (codes "public") (codes "k")), value.Table (column (codes "x") (Words (codes "integer")) true ∷ column (codes "y") (Words (codes "text")) false ∷ []))
    ∷ (key.Rel (at (codes "public") (codes "n")), value.IndexOf (at (codes "public") (codes "k")))
    ∷ (key.Rel (at (codes "public") (codes "u")), value.IndexOf (at (codes "public") (codes "k")))
    ∷ (key.Rel (at (codes "public") (codes "v")), value.Table (column (codes "y") (Words (codes "integer")) true ∷ column (codes "x") (Words (codes "integer")) true ∷ []))
    ∷ (key.Owner (object.Schema (codes "a")), value.Owner (codes "postgres"))
    ∷ (key.Owner (object.Schema (codes "public")), value.Owner (codes "postgres"))
    ∷ (key.Owner (object.Type (at (codes "a") (codes "k"))), value.Owner (codes "postgres"))
    ∷ (key.Owner (object.Type (at (codes "a") (codes "n"))), value.Owner (codes "postgres"))
    ∷ (key.Owner (object.Type (at (codes "a") (codes "v"))), value.Owner (codes "postgres"))
    ∷ (key.Owner (object.Type (at (codes "public") (codes "m"))), value.Owner (codes "postgres"))
    ∷ (key.Owner (object.Relation (at (codes "a") (codes "n"))), value.Owner (codes "postgres"))
    ∷ (key.Owner (object.Relation (at (codes "public") (codes "k"))), value.Owner (codes "postgres"))
    ∷ (key.Owner (object.Relation (at (codes "public") (codes "v"))), value.Owner (codes "postgres"))
    ∷ (key.Owner (object.Database (codes "postgres")), value.Owner (codes "postgres"))
    ∷ (key.Default (at (codes "public") (codes "k")) (codes "x"), value.DefaultText (codes "1"))
    ∷ (key.Default (at (codes "public") (codes "v")) (codes "y"), value.DefaultText (codes "'m'::a.k"))
    ∷ (key.Con (at (codes "public") (codes "k")) (codes "n"), unique_key kinds.Primary ((codes "y") ∷ []) [])
    ∷ (key.Con (at (codes "public") (codes "v")) (codes "u"), check (codes "(VALUE > 0)"))
    ∷ (key.Index (at (codes "public") (codes "k")) (codes "u"), index (codes "btree") true (codes "(y) WHERE true"))
    ∷ (key.Rows (at (codes "public") (codes "k")), value.Rows [])
    ∷ (key.Rows (at (codes "public") (codes "v")), value.Rows [])
    ∷ (key.SeqVal (at (codes "a") (codes "n")), value.SequenceValue (pos 1) false)
    ∷ (key.Acl (object.Schema (codes "a")), rights (owner (codes "UC") ∷ []))
    ∷ (key.Acl (object.Schema (codes "public")), rights (owner (codes "UC") ∷ []))
    ∷ (key.Acl (object.Type (at (codes "a") (codes "k"))), rights (owner (codes "U") ∷ public (codes "U") ∷ []))
    ∷ (key.Acl (object.Type (at (codes "a") (codes "n"))), rights (owner (codes "U") ∷ public (codes "U") ∷ []))
    ∷ (key.Acl (object.Type (at (codes "a") (codes "v"))), rights (owner (codes "U") ∷ public (codes "U") ∷ []))
    ∷ (key.Acl (object.Type (at (codes "public") (codes "m"))), rights (owner (codes "U") ∷ public (codes "U") ∷ []))
    ∷ (key.Acl (object.Relation (at (codes "a") (codes "n"))), rights (owner (codes "rwU") ∷ []))
    ∷ (key.Acl (object.Relation (at (codes "public") (codes "k"))), rights (owner (codes "arwdDxt") ∷ public (codes "a*r*w*d*D*x*t*") ∷ role (codes "bob") (codes "x") ∷ []))
    ∷ (key.Acl (object.Relation (at (codes "public") (codes "v"))), rights (owner (codes "arwdDxt") ∷ []))
    ∷ (key.Comment (object.Relation (at (codes "public") (codes "k"))), value.Comment (codes "hi"))
    ∷ (key.Database (codes "postgres"), value.Database encoding.Utf8)
    ∷ []

abbrev pub run_three : List Stmt
run_three =
    stmt.CreateSchema (codes "a")
    ∷ stmt.CreateRole (codes "bob")
    ∷ stmt.CreateRole (codes "eve")
    ∷ stmt.AddUnique (at (codes "a") (codes "k")) (codes "u") ((codes "y") ∷ []) []
    ∷ stmt.CreateEnum (at (codes "public") (codes "t")) ((codes "m") ∷ (codes "1") ∷ [])
    ∷ stmt.CreateDomain (at (codes "a") (codes "k")) (Path (at (codes "pg_catalog") (codes "int4"))) false None []
    ∷ stmt.CopyRows (at (codes "public") (codes "n")) ((codes "y") ∷ (codes "x") ∷ (codes "z") ∷ []) (codes "1\t3\ta \n")
    ∷ stmt.CreateEnum (at (codes "a") (codes "v")) []
    ∷ stmt.GrantRole (codes "eve") (codes "postgres") (Some (codes "bob")) true None true
    ∷ stmt.OwnerTo (owned.Type (at (codes "a") (codes "k"))) (codes "eve")
    ∷ stmt.CopyRows (at (codes "a") (codes "u")) ((codes "x") ∷ []) (codes "2\n")
    ∷ stmt.AddForeign (at (codes "public") (codes "t")) (codes "u") ((codes "x") ∷ []) (at (codes "public") (codes "v")) ((codes "x") ∷ []) []
    ∷ stmt.CreateTable (at (codes "a") (codes "n")) (record { name = (codes "x"); type_name = (Path (at (codes "pg_catalog") (codes "int4"))); «default» = (Some (codes "(VALUE > 0)")); not_null = false } ∷ record { name = (codes "z"); type_name = (Path (at (codes "pg_catalog") (codes "int4"))); «default» = None; not_null = true } ∷ []) (record { name = (codes "t"); text = (codes "(VALUE > 0)") } ∷ [])
    ∷ stmt.AddPrimary (at (codes "a") (codes "n")) (codes "t") ((codes "x") ∷ (codes "z") ∷ []) []
    ∷ stmt.CreateDomain (at (codes "a") (codes "u")) (Path (at (codes "a") (codes "v"))) true (Some (codes "E'a\\'b'")) (record { name = (codes "v"); text = (codes "nextval('a.k'::regclass)") } ∷ [])
    ∷ stmt.CopyRows (at (codes "a") (codes "n")) [] (codes "1\t2\t2\n")
    ∷ stmt.AddUnique (at (codes "a") (codes "n")) (codes "u") ((codes "z") ∷ []) (codes "DEFERRABLE")
    ∷ stmt.AddPrimary (at (codes "a") (codes "n")) (codes "m") ((codes "z") ∷ (codes "x") ∷ []) []
    ∷ stmt.GrantRole (codes "postgres") (codes "bob") None false (Some false) true
    ∷ stmt.CreateTable (at (codes "public") (codes "k")) (record { name = (codes "z"); type_name = (Words (codes "character(2)")); «default» = (Some (codes "1")); not_null = false } ∷ record { name = (codes "x"); type_name = (Path (at (codes "pg_catalog") (codes "int4"))); «default» = (Some (codes "E'a\\'b'")); not_null = false } ∷ []) (record { name = (codes "k"); text = (codes "'m'::a.v") } ∷ [])
    ∷ []

abbrev pub values_three : Entries
values_three =
    (key.Role (codes "bob"), created_role true)
    ∷ (key.Role (codes "eve"), created_role true)
    ∷ (key.Role (codes "postgres"), first_role true)
    ∷ (key.Member (codes "eve") (codes "postgres") (codes "bob"), membership true true true)
    ∷ (key.Member (codes "postgres") (codes "bob") (codes "postgres"), membership false false true)
    ∷ (key.Schema (codes "a"), value.Schema)
    ∷ (key.Schema (codes "public"), value.Schema)
    ∷ (key.UserType (at (codes "a") (codes "k")), domain (Path (at (codes "pg_catalog") (codes "int4"))) (resolved (Path (at (codes "pg_catalog") (codes "int4"))) None false) false None [])
    ∷ (key.UserType (at (codes "a") (codes "v")), value.Enum [])
    ∷ (key.UserType (at (codes "public") (codes "t")), value.Enum ((codes "m") ∷ (codes "1") ∷ []))
    ∷ (key.Rel (at (codes "a") (codes "m")), value.IndexOf (at (codes "a") (codes "n")))
    ∷ (key.Rel (at (codes "a") (codes "n")), value.Table (column (codes "x") (Path (at (codes "pg_catalog") (codes "int4"))) false ∷ column (codes "z") (Path (at (codes "pg_catalog") (codes "int4"))) true ∷ []))
    ∷ (key.Rel (at (codes "a") (codes "u")), value.IndexOf (at (codes "a") (codes "n")))
    ∷ (key.Rel (at (codes "public") (codes "k")), value.Table (column (codes "z") (Words (codes "character(2)")) false ∷ column (codes "x") (Path (at (codes "pg_catalog") (codes "int4"))) false ∷ []))
    ∷ (key.Owner (object.Schema (codes "a")), value.Owner (codes "postgres"))
    ∷ (key.Owner (object.Schema (codes "public")), value.Owner (codes "postgres"))
    ∷ (key.Owner (object.Type (at (codes "a") (codes "k"))), value.Owner (codes "postgres"))
    ∷ (key.Owner (object.Type (at (codes "a") (codes "v"))), value.Owner (codes "postgres"))
    ∷ (key.Owner (object.Type (at (codes "public") (codes "t"))), value.Owner (codes "postgres"))
    ∷ (key.Owner (object.Relation (at (codes "a") (codes "n"))), value.Owner (codes "postgres"))
    ∷ (key.Owner (object.Relation (at (codes "public") (codes "k"))), value.Owner (codes "postgres"))
    ∷ (key.Owner (object.Database (codes "postgres")), value.Owner (codes "postgres"))
    ∷ (key.Default (at (codes "a") (codes "n")) (codes "x"), value.DefaultText (codes "(VALUE > 0)"))
    ∷ (key.Default (at (codes "public") (codes "k")) (codes "x"), value.DefaultText (codes "E'a\\'b'"))
    ∷ (key.Default (at (codes "public") (codes "k")) (codes "z"), value.DefaultText (codes "1"))
    ∷ (key.Con (at (codes "a") (codes "n")) (codes "m"), unique_key kinds.Primary ((codes "z") ∷ (codes "x") ∷ []) [])
    ∷ (key.Con (at (codes "a") (codes "n")) (codes "t"), check (codes "(VALUE > 0)"))
    ∷ (key.Con (at (codes "a") (codes "n")) (codes "u"), unique_key kinds.Unique ((codes "z") ∷ []) (codes "DEFERRABLE"))
    ∷ (key.Con (at (codes "public") (codes "k")) (codes "k"), check (codes "'m'::a.v"))
    ∷ (key.Rows (at (codes "a") (codes "n")), value.Rows [])
    ∷ (key.Rows (at (codes "public") (codes "k")), value.Rows [])
    ∷ (key.Acl (object.Schema (codes "a")), rights (owner (codes "UC") ∷ []))
    ∷ (key.Acl (object.Schema (codes "public")), rights (owner (codes "UC") ∷ []))
    ∷ (key.Acl (object.Type (at (codes "a") (codes "k"))), rights (owner (codes "U") ∷ public (codes "U") ∷ []))
    ∷ (key.Acl (object.Type (at (codes "a") (codes "v"))), rights (owner (codes "U") ∷ public (codes "U") ∷ []))
    ∷ (key.Acl (object.Type (at (codes "public") (codes "t"))), rights (owner (codes "U") ∷ public (codes "U") ∷ []))
    ∷ (key.Acl (object.Relation (at (codes "a") (codes "n"))), rights (owner (codes "arwdDxt") ∷ []))
    ∷ (key.Acl (object.Relation (at (codes "public") (codes "k"))), rights (owner (codes "arwdDxt") ∷ []))
    ∷ (key.Database (codes "postgres"), value.Database encoding.Utf8)
    ∷ []

abbrev pub run_four : List Stmt
run_four =
    stmt.CreateSchema (codes "a")
    ∷ stmt.CreateRole (codes "bob")
    ∷ stmt.CreateRole (codes "eve")
    ∷ stmt.SetVal (at (codes "public") (codes "v")) (pos 0) true
    ∷ stmt.CreateTable (at (codes "a") (codes "k")) (record { name = (codes "z"); type_name = (Words (codes "integer")); «default» = None; not_null = false } ∷ record { name = (codes "x"); type_name = (Words (codes "integer")); «default» = (Some (codes "(VALUE > 0)")); not_null = false } ∷ []) (record { name = (codes "k"); text = (codes "(VALUE > 0)") } ∷ record { name = (codes "n"); text = (codes "1") } ∷ [])
    ∷ stmt.CreateIndex (at (codes "a") (codes "k")) (codes "m") (codes "btree") (codes "(x)")
    ∷ stmt.Grant (on.Table (at (codes "a") (codes "k"))) (letters (codes "w")) grantee.Public true
    ∷ stmt.CreateTable (at (codes "a") (codes "v")) (record { name = (codes "z"); type_name = (Words (codes "text")); «default» = None; not_null = true } ∷ record { name = (codes "y"); type_name = (Path (at (codes "pg_catalog") (codes "int4"))); «default» = (Some (codes "E'a\\'b'")); not_null = true } ∷ []) []
    ∷ stmt.AddUnique (at (codes "a") (codes "k")) (codes "m") ((codes "y") ∷ []) []
    ∷ stmt.CreateTable (at (codes "a") (codes "v")) (record { name = (codes "x"); type_name = (Words (codes "integer")); «default» = None; not_null = true } ∷ record { name = (codes "z"); type_name = (Words (codes "text")); «default» = None; not_null = false } ∷ record { name = (codes "y"); type_name = (Words (codes "integer")); «default» = None; not_null = false } ∷ []) (record { name = (codes "u"); text = (codes "E'a\\'b'") } ∷ record { name = (codes "m"); text = (codes "'m'::public.k") } ∷ [])
    ∷ stmt.AddUnique (at (codes "a") (codes "v")) (codes "k") ((codes "x") ∷ []) []
    ∷ stmt.CreateView (at (codes "public") (codes "n")) (codes "SELECT 1 FROM a.m, (a.k JOIN a.k ON true)")
    ∷ stmt.CreateIndex (at (codes "a") (codes "k")) (codes "t") (codes "btree") (codes "(x)")
    ∷ stmt.AddUnique (at (codes "a") (codes "v")) (codes "n") ((codes "x") ∷ (codes "z") ∷ []) []
    ∷ stmt.CreateDomain (at (codes "public") (codes "v")) (Words (codes "integer")) false (Some (codes "E'a\\'b'")) []
    ∷ stmt.GrantRole (codes "eve") (codes "eve") (Some (codes "postgres")) false (Some false) true
    ∷ stmt.CopyRows (at (codes "a") (codes "k")) [] []
    ∷ []

abbrev pub values_four : Entries
values_four =
    (key.Role (codes "bob"), created_role true)
    ∷ (key.Role (codes "eve"), created_role true)
    ∷ (key.Role (codes "postgres"), first_role true)
    ∷ (key.Member (codes "eve") (codes "eve") (codes "postgres"), membership false false true)
    ∷ (key.Schema (codes "a"), value.Schema)
    ∷ (key.Schema (codes "public"), value.Schema)
    ∷ (key.UserType (at (codes "public") (codes "v")), domain (Words (codes "integer")) (resolved (Words (codes "integer")) None false) false (Some (codes "E'a\\'b'")) [])
    ∷ (key.Rel (at (codes "a") (codes "k")), value.Table (column (codes "z") (Words (codes "integer")) false ∷ column (codes "x") (Words (codes "integer")) false ∷ []))
    ∷ (key.Rel (at (codes "a") (codes "m")), value.IndexOf (at (codes "a") (codes "k")))
    ∷ (key.Rel (at (codes "a") (codes "t")), value.IndexOf (at (codes "a") (codes "k")))
    ∷ (key.Rel (at (codes "a") (codes "v")), value.Table (column (codes "z") (Words (codes "text")) true ∷ column (codes "y") (Path (at (codes "pg_catalog") (codes "int4"))) true ∷ []))
    ∷ (key.Rel (at (codes "public") (codes "n")), value.View)
    ∷ (key.Owner (object.Schema (codes "a")), value.Owner (codes "postgres"))
    ∷ (key.Owner (object.Schema (codes "public")), value.Owner (codes "postgres"))
    ∷ (key.Owner (object.Type (at (codes "public") (codes "v"))), value.Owner (codes "postgres"))
    ∷ (key.Owner (object.Relation (at (codes "a") (codes "k"))), value.Owner (codes "postgres"))
    ∷ (key.Owner (object.Relation (at (codes "a") (codes "v"))), value.Owner (codes "postgres"))
    ∷ (key.Owner (object.Relation (at (codes "public") (codes "n"))), value.Owner (codes "postgres"))
    ∷ (key.Owner (object.Database (codes "postgres")), value.Owner (codes "postgres"))
    ∷ (key.Default (at (codes "a") (codes "k")) (codes "x"), value.DefaultText (codes "(VALUE > 0)"))
    ∷ (key.Default (at (codes "a") (codes "v")) (codes "y"), value.DefaultText (codes "E'a\\'b'"))
    ∷ (key.Con (at (codes "a") (codes "k")) (codes "k"), check (codes "(VALUE > 0)"))
    ∷ (key.Con (at (codes "a") (codes "k")) (codes "n"), check (codes "1"))
    ∷ (key.Index (at (codes "a") (codes "k")) (codes "m"), index (codes "btree") false (codes "(x)"))
    ∷ (key.Index (at (codes "a") (codes "k")) (codes "t"), index (codes "btree") false (codes "(x)"))
    ∷ (key.Rows (at (codes "a") (codes "k")), value.Rows [])
    ∷ (key.Rows (at (codes "a") (codes "v")), value.Rows [])
    ∷ (key.Acl (object.Schema (codes "a")), rights (owner (codes "UC") ∷ []))
    ∷ (key.Acl (object.Schema (codes "public")), rights (owner (codes "UC") ∷ []))
    ∷ (key.Acl (object.Type (at (codes "public") (codes "v"))), rights (owner (codes "U") ∷ public (codes "U") ∷ []))
    ∷ (key.Acl (object.Relation (at (codes "a") (codes "k"))), rights (owner (codes "arwdDxt") ∷ public (codes "w*") ∷ []))
    ∷ (key.Acl (object.Relation (at (codes "a") (codes "v"))), rights (owner (codes "arwdDxt") ∷ []))
    ∷ (key.Acl (object.Relation (at (codes "public") (codes "n"))), rights (owner (codes "arwdDxt") ∷ []))
    ∷ (key.Body (at (codes "public") (codes "n")), value.Body (codes "SELECT 1 FROM a.m, (a.k JOIN a.k ON true)"))
    ∷ (key.Database (codes "postgres"), value.Database encoding.Utf8)
    ∷ []
