-- Short runs of statements from the export of an empty cluster: rows and keys, what is made of types, tables and
-- views, and rights. Each has the keys that are there at the end with their values; two have what each statement says.
use Rattle.std.specs.Prelude.{true, false, List, [], ◌∷◌, Option, Some, None, codes, pos}
use Rattle.cat_model.specs.declared.object.Object.TheVariants as object
use Rattle.cat_model.specs.declared.key.Key.TheVariants as key
use Rattle.cat_model.specs.declared.cause.Cause.{Cause}
use Rattle.cat_model.specs.declared.cause.Cause.TheVariants as cause
use Rattle.cat_model.specs.declared.stmt.Stmt.{Stmt}
use Rattle.cat_model.specs.declared.stmt.Stmt.TheVariants as stmt
use Rattle.cat_model.specs.declared.grant.Owned.TheVariants as owned
use Rattle.cat_model.specs.declared.grant.Granted.TheVariants as on
use Rattle.cat_model.specs.declared.grant.Commented.TheVariants as commented
use Rattle.cat_model.specs.declared.grant.Grantee.TheVariants as grantee
use Rattle.cat_model.specs.declared.constraint.ConstraintKind.TheVariants as kinds
use Rattle.cat_model.specs.declared.constraint.SequenceKind.TheVariants as sequences
use Rattle.cat_model.specs.declared.constraint.Encoding.TheVariants as encoding
use Rattle.cat_model.specs.declared.type_name.TypeName.TheVariants.{Words, Path}
use Rattle.cat_model.specs.declared.value.Value.TheVariants as value
use Rattle.model_laws.specs.Runs.{at}
use Rattle.value_runs.specs.Written.{Entries, letters, owner, public, role, rights, created_role, first_role, membership, resolved, domain, column, typed, sequence, unique_key, foreign_key, index}

abbrev pub run_keyed : List Stmt
run_keyed =
    stmt.Set (codes "client_encoding") (codes "'UTF8'")
    ∷ stmt.SetConfig (codes "search_path") []
    ∷ stmt.CreateTable (at (codes "public") (codes "p")) (record { name = (codes "a"); type_name = (Words (codes "character(3)")); «default» = None; not_null = false } ∷ record { name = (codes "b"); type_name = (Words (codes "integer")); «default» = None; not_null = false } ∷ []) []
    ∷ stmt.CopyRows (at (codes "public") (codes "p")) ((codes "b") ∷ (codes "a") ∷ []) (codes "1\tx  \n2\ty\n")
    ∷ stmt.AddUnique (at (codes "public") (codes "p")) (codes "z") ((codes "a") ∷ []) []
    ∷ stmt.CreateUniqueIndex (at (codes "public") (codes "p")) (codes "i") (codes "btree") (codes "(b)")
    ∷ stmt.CopyRows (at (codes "public") (codes "p")) [] (codes "x\t1\n")
    ∷ stmt.CopyRows (at (codes "public") (codes "p")) [] (codes "v\t2\n")
    ∷ stmt.CopyRows (at (codes "public") (codes "p")) [] (codes "x\t3\n")
    ∷ stmt.CopyRows (at (codes "public") (codes "p")) ((codes "b") ∷ (codes "a") ∷ []) (codes "\\N\tw\n\\N\tu\n")
    ∷ stmt.CopyRows (at (codes "public") (codes "p")) ((codes "a") ∷ []) (codes "v\n")
    ∷ stmt.CreateTable (at (codes "public") (codes "c")) (record { name = (codes "a"); type_name = (Words (codes "character(2)")); «default» = None; not_null = false } ∷ record { name = (codes "n"); type_name = (Words (codes "integer")); «default» = None; not_null = true } ∷ []) []
    ∷ stmt.CopyRows (at (codes "public") (codes "c")) [] (codes "x\t1\ny \t2\n\\N\t3\n")
    ∷ stmt.AddForeign (at (codes "public") (codes "c")) (codes "f") ((codes "a") ∷ []) (at (codes "public") (codes "p")) ((codes "a") ∷ []) (codes "ON DELETE CASCADE")
    ∷ stmt.CopyRows (at (codes "public") (codes "c")) ((codes "n") ∷ (codes "a") ∷ []) (codes "4\tw\n5\tv\n")
    ∷ stmt.CopyRows (at (codes "public") (codes "c")) ((codes "n") ∷ (codes "a") ∷ []) (codes "\\N\tv\n")
    ∷ stmt.CopyRows (at (codes "public") (codes "c")) ((codes "n") ∷ (codes "a") ∷ []) (codes "4\tw \n")
    ∷ stmt.AddForeign (at (codes "public") (codes "c")) (codes "g") ((codes "n") ∷ []) (at (codes "public") (codes "c")) ((codes "n") ∷ []) []
    ∷ stmt.AddPrimary (at (codes "public") (codes "c")) (codes "h") ((codes "n") ∷ (codes "a") ∷ []) []
    ∷ stmt.AddPrimary (at (codes "public") (codes "c")) (codes "k") ((codes "n") ∷ []) []
    ∷ stmt.AddPrimary (at (codes "public") (codes "c")) (codes "l") ((codes "n") ∷ []) []
    ∷ stmt.AddUnique (at (codes "public") (codes "p")) (codes "u") ((codes "b") ∷ (codes "a") ∷ []) (codes "DEFERRABLE")
    ∷ stmt.AddForeign (at (codes "public") (codes "c")) (codes "g") ((codes "a") ∷ (codes "n") ∷ []) (at (codes "public") (codes "p")) ((codes "a") ∷ (codes "b") ∷ []) []
    ∷ stmt.CreateTable (at (codes "public") (codes "t")) (record { name = (codes "a"); type_name = (Words (codes "integer")); «default» = None; not_null = false } ∷ record { name = (codes "b"); type_name = (Words (codes "integer")); «default» = None; not_null = false } ∷ []) []
    ∷ stmt.AddPrimary (at (codes "public") (codes "t")) (codes "t_key") ((codes "b") ∷ (codes "a") ∷ []) []
    ∷ stmt.AddForeign (at (codes "public") (codes "t")) (codes "t_own") ((codes "a") ∷ (codes "b") ∷ []) (at (codes "public") (codes "t")) ((codes "a") ∷ (codes "b") ∷ []) []
    ∷ stmt.AddForeign (at (codes "public") (codes "t")) (codes "t_swap") ((codes "a") ∷ (codes "b") ∷ []) (at (codes "public") (codes "t")) ((codes "b") ∷ (codes "a") ∷ []) []
    ∷ stmt.CopyRows (at (codes "public") (codes "t")) [] (codes "1\t2\n2\t1\n")
    ∷ stmt.CopyRows (at (codes "public") (codes "t")) [] (codes "3\t3\n4\t3\n")
    ∷ stmt.CopyRows (at (codes "public") (codes "t")) [] (codes "3\t3\n3\t\\N\n")
    ∷ stmt.CreateTable (at (codes "public") (codes "d")) (record { name = (codes "a"); type_name = (Words (codes "character(2)")); «default» = None; not_null = false } ∷ record { name = (codes "a"); type_name = (Words (codes "text")); «default» = None; not_null = false } ∷ []) []
    ∷ stmt.CreateTable (at (codes "public") (codes "d")) (record { name = (codes "a"); type_name = (Words (codes "character(2)")); «default» = None; not_null = false } ∷ []) []
    ∷ stmt.CopyRows (at (codes "public") (codes "d")) [] (codes "x\nx \n")
    ∷ stmt.AddUnique (at (codes "public") (codes "d")) (codes "e") ((codes "a") ∷ []) []
    ∷ stmt.CreateUniqueIndex (at (codes "public") (codes "d")) (codes "e") (codes "btree") (codes "(a)")
    ∷ stmt.CreateUniqueIndex (at (codes "public") (codes "d")) (codes "e") (codes "btree") (codes "(lower(a))")
    ∷ []

abbrev pub values_keyed : Entries
values_keyed =
    (key.Role (codes "postgres"), first_role true)
    ∷ (key.Schema (codes "public"), value.Schema)
    ∷ (key.Rel (at (codes "public") (codes "c")), value.Table (column (codes "a") (Words (codes "character(2)")) false ∷ column (codes "n") (Words (codes "integer")) true ∷ []))
    ∷ (key.Rel (at (codes "public") (codes "d")), value.Table (column (codes "a") (Words (codes "character(2)")) false ∷ []))
    ∷ (key.Rel (at (codes "public") (codes "e")), value.IndexOf (at (codes "public") (codes "d")))
    ∷ (key.Rel (at (codes "public") (codes "i")), value.IndexOf (at (codes "public") (codes "p")))
    ∷ (key.Rel (at (codes "public") (codes "k")), value.IndexOf (at (codes "public") (codes "c")))
    ∷ (key.Rel (at (codes "public") (codes "p")), value.Table (column (codes "a") (Words (codes "character(3)")) false ∷ column (codes "b") (Words (codes "integer")) false ∷ []))
    ∷ (key.Rel (at (codes "public") (codes "t")), value.Table (column (codes "a") (Words (codes "integer")) false ∷ column (codes "b") (Words (codes "integer")) false ∷ []))
    ∷ (key.Rel (at (codes "public") (codes "t_key")), value.IndexOf (at (codes "public") (codes "t")))
    ∷ (key.Rel (at (codes "public") (codes "u")), value.IndexOf (at (codes "public") (codes "p")))
    ∷ (key.Rel (at (codes "public") (codes "z")), value.IndexOf (at (codes "public") (codes "p")))
    ∷ (key.Owner (object.Schema (codes "public")), value.Owner (codes "postgres"))
    ∷ (key.Owner (object.Relation (at (codes "public") (codes "c"))), value.Owner (codes "postgres"))
    ∷ (key.Owner (object.Relation (at (codes "public") (codes "d"))), value.Owner (codes "postgres"))
    ∷ (key.Owner (object.Relation (at (codes "public") (codes "p"))), value.Owner (codes "postgres"))
    ∷ (key.Owner (object.Relation (at (codes "public") (codes "t"))), value.Owner (codes "postgres"))
    ∷ (key.Owner (object.Database (codes "postgres")), value.Owner (codes "postgres"))
    ∷ (key.Con (at (codes "public") (codes "c")) (codes "f"), foreign_key ((codes "a") ∷ []) (at (codes "public") (codes "p")) ((codes "a") ∷ []) (codes "ON DELETE CASCADE"))
    ∷ (key.Con (at (codes "public") (codes "c")) (codes "k"), unique_key kinds.Primary ((codes "n") ∷ []) [])
    ∷ (key.Con (at (codes "public") (codes "p")) (codes "u"), unique_key kinds.Unique ((codes "b") ∷ (codes "a") ∷ []) (codes "DEFERRABLE"))
    ∷ (key.Con (at (codes "public") (codes "p")) (codes "z"), unique_key kinds.Unique ((codes "a") ∷ []) [])
    ∷ (key.Con (at (codes "public") (codes "t")) (codes "t_key"), unique_key kinds.Primary ((codes "b") ∷ (codes "a") ∷ []) [])
    ∷ (key.Con (at (codes "public") (codes "t")) (codes "t_own"), foreign_key ((codes "a") ∷ (codes "b") ∷ []) (at (codes "public") (codes "t")) ((codes "a") ∷ (codes "b") ∷ []) [])
    ∷ (key.Con (at (codes "public") (codes "t")) (codes "t_swap"), foreign_key ((codes "a") ∷ (codes "b") ∷ []) (at (codes "public") (codes "t")) ((codes "b") ∷ (codes "a") ∷ []) [])
    ∷ (key.Index (at (codes "public") (codes "d")) (codes "e"), index (codes "btree") true (codes "(lower(a))"))
    ∷ (key.Index (at (codes "public") (codes "p")) (codes "i"), index (codes "btree") true (codes "(b)"))
    ∷ (key.Rows (at (codes "public") (codes "c")), value.Rows (((Some (codes "x")) ∷ (Some (codes "1")) ∷ []) ∷ ((Some (codes "y ")) ∷ (Some (codes "2")) ∷ []) ∷ (None ∷ (Some (codes "3")) ∷ []) ∷ ((Some (codes "w ")) ∷ (Some (codes "4")) ∷ []) ∷ []))
    ∷ (key.Rows (at (codes "public") (codes "d")), value.Rows (((Some (codes "x")) ∷ []) ∷ ((Some (codes "x ")) ∷ []) ∷ []))
    ∷ (key.Rows (at (codes "public") (codes "p")), value.Rows (((Some (codes "x  ")) ∷ (Some (codes "1")) ∷ []) ∷ ((Some (codes "y")) ∷ (Some (codes "2")) ∷ []) ∷ ((Some (codes "w")) ∷ None ∷ []) ∷ ((Some (codes "u")) ∷ None ∷ []) ∷ []))
    ∷ (key.Rows (at (codes "public") (codes "t")), value.Rows (((Some (codes "1")) ∷ (Some (codes "2")) ∷ []) ∷ ((Some (codes "2")) ∷ (Some (codes "1")) ∷ []) ∷ []))
    ∷ (key.Acl (object.Schema (codes "public")), rights (owner (codes "UC") ∷ []))
    ∷ (key.Acl (object.Relation (at (codes "public") (codes "c"))), rights (owner (codes "arwdDxt") ∷ []))
    ∷ (key.Acl (object.Relation (at (codes "public") (codes "d"))), rights (owner (codes "arwdDxt") ∷ []))
    ∷ (key.Acl (object.Relation (at (codes "public") (codes "p"))), rights (owner (codes "arwdDxt") ∷ []))
    ∷ (key.Acl (object.Relation (at (codes "public") (codes "t"))), rights (owner (codes "arwdDxt") ∷ []))
    ∷ (key.Database (codes "postgres"), value.Database encoding.Utf8)
    ∷ []

abbrev pub said_keyed : List (Option Cause)
said_keyed =
    None
    ∷ None
    ∷ None
    ∷ None
    ∷ None
    ∷ None
    ∷ Some (cause.Duplicate (codes "i") 1 3)
    ∷ Some (cause.Duplicate (codes "i") 2 3)
    ∷ Some (cause.Duplicate (codes "z") 1 3)
    ∷ None
    ∷ Some cause.WrongColumns
    ∷ None
    ∷ None
    ∷ None
    ∷ Some (cause.NoParent (codes "f") 2)
    ∷ Some (cause.NullValue 2 1)
    ∷ None
    ∷ Some (cause.KeyMissing (key.Rel (at (codes "public") (codes "c"))))
    ∷ Some (cause.NullValue 1 3)
    ∷ None
    ∷ Some (cause.Exists (key.Con (at (codes "public") (codes "c")) (codes "k")))
    ∷ None
    ∷ Some (cause.NoParent (codes "g") 4)
    ∷ None
    ∷ None
    ∷ None
    ∷ None
    ∷ None
    ∷ Some (cause.NoParent (codes "t_swap") 2)
    ∷ Some (cause.NullValue 2 2)
    ∷ Some cause.WrongColumns
    ∷ None
    ∷ None
    ∷ Some (cause.Duplicate (codes "e") 1 2)
    ∷ Some (cause.Duplicate (codes "e") 1 2)
    ∷ None
    ∷ []

abbrev pub run_shown : List Stmt
run_shown =
    stmt.CreateView (at (codes "public") (codes "v")) (codes "SELECT 1 FROM public.t")
    ∷ stmt.CreateEnum (at (codes "public") (codes "e")) ((codes "x") ∷ (codes "y") ∷ [])
    ∷ stmt.CreateDomain (at (codes "public") (codes "d")) (Words (codes "integer")) true None []
    ∷ stmt.CreateDomain (at (codes "public") (codes "f")) (Path (at (codes "public") (codes "d"))) false None []
    ∷ stmt.CreateDomain (at (codes "public") (codes "g")) (Path (at (codes "public") (codes "e"))) false (Some (codes "'x'::public.e")) []
    ∷ stmt.CreateTable (at (codes "public") (codes "t")) (record { name = (codes "a"); type_name = (Path (at (codes "public") (codes "f"))); «default» = None; not_null = false } ∷ record { name = (codes "b"); type_name = (Path (at (codes "public") (codes "g"))); «default» = None; not_null = false } ∷ []) []
    ∷ stmt.CopyRows (at (codes "public") (codes "t")) [] (codes "7\tx\n")
    ∷ stmt.CopyRows (at (codes "public") (codes "t")) [] (codes "8\ty\n\\N\ty\n")
    ∷ stmt.CopyRows (at (codes "public") (codes "t")) ((codes "b") ∷ (codes "a") ∷ []) (codes "z\t9\n")
    ∷ stmt.CopyRows (at (codes "public") (codes "t")) ((codes "b") ∷ (codes "a") ∷ []) (codes "\\N\t9\n")
    ∷ stmt.CreateView (at (codes "public") (codes "v")) (codes "SELECT 1 FROM public.t")
    ∷ stmt.ReplaceView (at (codes "public") (codes "v")) (codes "SELECT 2 FROM public.w")
    ∷ stmt.ReplaceView (at (codes "public") (codes "v")) (codes "SELECT 3 FROM public.t JOIN public.v ON true")
    ∷ stmt.Comment (commented.View (at (codes "public") (codes "v"))) (Some [])
    ∷ stmt.Comment (commented.Table (at (codes "public") (codes "v"))) (Some (codes "one"))
    ∷ stmt.Comment (commented.Domain (at (codes "public") (codes "e"))) (Some (codes "one"))
    ∷ stmt.OwnerTo (owned.Type (at (codes "public") (codes "d"))) (codes "postgres")
    ∷ stmt.OwnerTo (owned.View (at (codes "public") (codes "t"))) (codes "postgres")
    ∷ stmt.OwnerTo (owned.Table (at (codes "public") (codes "v"))) (codes "r")
    ∷ stmt.Grant (on.Table (at (codes "public") (codes "v"))) (letters (codes "r")) (grantee.Role (codes "r")) false
    ∷ stmt.Comment (commented.Table (at (codes "public") (codes "t"))) (Some (codes "one"))
    ∷ stmt.Comment (commented.Table (at (codes "public") (codes "t"))) None
    ∷ stmt.Comment (commented.Column (at (codes "public") (codes "t")) (codes "b")) (Some (codes "two"))
    ∷ stmt.Comment (commented.Column (at (codes "public") (codes "t")) (codes "b")) (Some (codes "three"))
    ∷ stmt.Comment (commented.Column (at (codes "public") (codes "t")) (codes "c")) (Some (codes "four"))
    ∷ stmt.CreateSequence (at (codes "public") (codes "s")) sequences.Integer (pos 5) (pos 2) (pos 3) (pos 9) (pos 1) true
    ∷ stmt.Grant (on.Table (at (codes "public") (codes "s"))) (letters (codes "r")) grantee.Public false
    ∷ stmt.OwnerTo (owned.Sequence (at (codes "public") (codes "t"))) (codes "postgres")
    ∷ stmt.SetVal (at (codes "public") (codes "s")) (pos 9) false
    ∷ stmt.SetVal (at (codes "public") (codes "s")) (pos 10) true
    ∷ stmt.SetDefault (at (codes "public") (codes "t")) (codes "a") (codes "nextval('public.s'::regclass)")
    ∷ stmt.OwnedBy (at (codes "public") (codes "s")) (at (codes "public") (codes "t")) (codes "a")
    ∷ stmt.Connect (codes "m")
    ∷ stmt.CreateDatabase (codes "postgres") None
    ∷ stmt.CreateRole (codes "public")
    ∷ stmt.CreateSchema (codes "pg_catalog")
    ∷ stmt.CreateDatabase (codes "m") None
    ∷ stmt.Connect (codes "m")
    ∷ []

abbrev pub values_shown : Entries
values_shown =
    (key.Role (codes "postgres"), first_role true)
    ∷ (key.Schema (codes "public"), value.Schema)
    ∷ (key.UserType (at (codes "public") (codes "d")), domain (Words (codes "integer")) (resolved (Words (codes "integer")) None false) true None [])
    ∷ (key.UserType (at (codes "public") (codes "e")), value.Enum ((codes "x") ∷ (codes "y") ∷ []))
    ∷ (key.UserType (at (codes "public") (codes "f")), domain (Path (at (codes "public") (codes "d"))) (resolved (Words (codes "integer")) None true) false None [])
    ∷ (key.UserType (at (codes "public") (codes "g")), domain (Path (at (codes "public") (codes "e"))) (resolved (Path (at (codes "public") (codes "e"))) (Some ((codes "x") ∷ (codes "y") ∷ [])) false) false (Some (codes "'x'::public.e")) [])
    ∷ (key.Rel (at (codes "public") (codes "s")), sequence sequences.Integer (pos 5) (pos 2) (pos 3) (pos 9) (pos 1) true)
    ∷ (key.Rel (at (codes "public") (codes "t")), value.Table (typed (codes "a") (Path (at (codes "public") (codes "f"))) (resolved (Words (codes "integer")) None true) false ∷ typed (codes "b") (Path (at (codes "public") (codes "g"))) (resolved (Path (at (codes "public") (codes "e"))) (Some ((codes "x") ∷ (codes "y") ∷ [])) false) false ∷ []))
    ∷ (key.Rel (at (codes "public") (codes "v")), value.View)
    ∷ (key.Owner (object.Schema (codes "public")), value.Owner (codes "postgres"))
    ∷ (key.Owner (object.Type (at (codes "public") (codes "d"))), value.Owner (codes "postgres"))
    ∷ (key.Owner (object.Type (at (codes "public") (codes "e"))), value.Owner (codes "postgres"))
    ∷ (key.Owner (object.Type (at (codes "public") (codes "f"))), value.Owner (codes "postgres"))
    ∷ (key.Owner (object.Type (at (codes "public") (codes "g"))), value.Owner (codes "postgres"))
    ∷ (key.Owner (object.Relation (at (codes "public") (codes "s"))), value.Owner (codes "postgres"))
    ∷ (key.Owner (object.Relation (at (codes "public") (codes "t"))), value.Owner (codes "postgres"))
    ∷ (key.Owner (object.Relation (at (codes "public") (codes "v"))), value.Owner (codes "postgres"))
    ∷ (key.Owner (object.Database (codes "m")), value.Owner (codes "postgres"))
    ∷ (key.Owner (object.Database (codes "postgres")), value.Owner (codes "postgres"))
    ∷ (key.Default (at (codes "public") (codes "t")) (codes "a"), value.DefaultText (codes "nextval('public.s'::regclass)"))
    ∷ (key.Rows (at (codes "public") (codes "t")), value.Rows (((Some (codes "7")) ∷ (Some (codes "x")) ∷ []) ∷ ((Some (codes "9")) ∷ None ∷ []) ∷ []))
    ∷ (key.SeqVal (at (codes "public") (codes "s")), value.SequenceValue (pos 9) false)
    ∷ (key.OwnedBy (at (codes "public") (codes "s")), value.OwnedBy (at (codes "public") (codes "t")) (codes "a"))
    ∷ (key.Acl (object.Schema (codes "public")), rights (owner (codes "UC") ∷ []))
    ∷ (key.Acl (object.Type (at (codes "public") (codes "d"))), rights (owner (codes "U") ∷ public (codes "U") ∷ []))
    ∷ (key.Acl (object.Type (at (codes "public") (codes "e"))), rights (owner (codes "U") ∷ public (codes "U") ∷ []))
    ∷ (key.Acl (object.Type (at (codes "public") (codes "f"))), rights (owner (codes "U") ∷ public (codes "U") ∷ []))
    ∷ (key.Acl (object.Type (at (codes "public") (codes "g"))), rights (owner (codes "U") ∷ public (codes "U") ∷ []))
    ∷ (key.Acl (object.Relation (at (codes "public") (codes "s"))), rights (owner (codes "rwU") ∷ []))
    ∷ (key.Acl (object.Relation (at (codes "public") (codes "t"))), rights (owner (codes "arwdDxt") ∷ []))
    ∷ (key.Acl (object.Relation (at (codes "public") (codes "v"))), rights (owner (codes "arwdDxt") ∷ []))
    ∷ (key.Comment (object.Relation (at (codes "public") (codes "v"))), value.Comment [])
    ∷ (key.Comment (object.Column (at (codes "public") (codes "t")) (codes "b")), value.Comment (codes "three"))
    ∷ (key.Body (at (codes "public") (codes "v")), value.Body (codes "SELECT 3 FROM public.t JOIN public.v ON true"))
    ∷ (key.Database (codes "m"), value.Database encoding.Utf8)
    ∷ (key.Database (codes "postgres"), value.Database encoding.Utf8)
    ∷ []

abbrev pub said_shown : List (Option Cause)
said_shown =
    Some (cause.Absent (key.Rel (at (codes "public") (codes "t"))))
    ∷ None
    ∷ None
    ∷ None
    ∷ None
    ∷ None
    ∷ None
    ∷ Some (cause.NullValue 1 2)
    ∷ Some (cause.BadValue 2 1)
    ∷ None
    ∷ None
    ∷ Some (cause.Absent (key.Rel (at (codes "public") (codes "w"))))
    ∷ None
    ∷ None
    ∷ Some (cause.Absent (key.Rel (at (codes "public") (codes "v"))))
    ∷ Some (cause.Absent (key.UserType (at (codes "public") (codes "e"))))
    ∷ Some (cause.Absent (key.UserType (at (codes "public") (codes "d"))))
    ∷ Some (cause.Absent (key.Rel (at (codes "public") (codes "t"))))
    ∷ Some (cause.Absent (key.Role (codes "r")))
    ∷ Some (cause.Absent (key.Role (codes "r")))
    ∷ None
    ∷ None
    ∷ None
    ∷ None
    ∷ Some cause.WrongColumns
    ∷ None
    ∷ Some (cause.Absent (key.Rel (at (codes "public") (codes "s"))))
    ∷ Some (cause.Absent (key.Rel (at (codes "public") (codes "t"))))
    ∷ None
    ∷ Some cause.OutOfRange
    ∷ None
    ∷ None
    ∷ Some (cause.Absent (key.Database (codes "m")))
    ∷ Some (cause.Exists (key.Database (codes "postgres")))
    ∷ Some (cause.Exists (key.Role (codes "public")))
    ∷ Some (cause.Exists (key.Schema (codes "pg_catalog")))
    ∷ None
    ∷ None
    ∷ []

abbrev pub run_granted : List Stmt
run_granted =
    stmt.CreateRole (codes "r")
    ∷ stmt.CreateRole (codes "s")
    ∷ stmt.CreateSchema (codes "a")
    ∷ stmt.Grant (on.Schema (codes "a")) (letters (codes "UC")) (grantee.Role (codes "r")) true
    ∷ stmt.Grant (on.Schema (codes "a")) (letters (codes "U")) (grantee.Role (codes "r")) false
    ∷ stmt.Revoke (on.Schema (codes "a")) (letters (codes "C")) (grantee.Role (codes "r"))
    ∷ stmt.CreateSchema (codes "b")
    ∷ stmt.Grant (on.Schema (codes "b")) (letters (codes "C")) (grantee.Role (codes "r")) true
    ∷ stmt.OwnerTo (owned.Schema (codes "b")) (codes "r")
    ∷ stmt.Revoke (on.Schema (codes "b")) (letters (codes "U")) (grantee.Role (codes "r"))
    ∷ stmt.CreateEnum (at (codes "public") (codes "e")) ((codes "x") ∷ [])
    ∷ stmt.Revoke (on.Type (at (codes "public") (codes "e"))) (letters (codes "U")) grantee.Public
    ∷ stmt.CreateDomain (at (codes "public") (codes "d")) (Words (codes "integer")) false None (record { name = (codes "y"); text = (codes "VALUE > 0") } ∷ [])
    ∷ stmt.AddDomainCheck (at (codes "public") (codes "d")) (codes "x") (codes "VALUE < 9")
    ∷ stmt.AddDomainCheck (at (codes "public") (codes "d")) (codes "y") (codes "VALUE < 8")
    ∷ stmt.OwnerTo (owned.Domain (at (codes "public") (codes "d"))) (codes "s")
    ∷ stmt.Revoke (on.Type (at (codes "public") (codes "d"))) (letters (codes "U")) (grantee.Role (codes "s"))
    ∷ stmt.CreateSequence (at (codes "public") (codes "q")) sequences.BigInt (pos 1) (pos 1) (pos 1) (pos 9223372036854775807) (pos 1) false
    ∷ stmt.OwnerTo (owned.Table (at (codes "public") (codes "q"))) (codes "s")
    ∷ stmt.Grant (on.Sequence (at (codes "public") (codes "q"))) (letters (codes "rw")) grantee.Public false
    ∷ stmt.CreateView (at (codes "public") (codes "v")) (codes "SELECT 1")
    ∷ stmt.Grant (on.Table (at (codes "public") (codes "v"))) (letters (codes "r")) (grantee.Role (codes "s")) true
    ∷ stmt.OwnerTo (owned.Table (at (codes "public") (codes "v"))) (codes "s")
    ∷ stmt.Revoke (on.Table (at (codes "public") (codes "v"))) (letters (codes "w")) (grantee.Role (codes "s"))
    ∷ stmt.AlterRole (codes "r") (record { superuser = None; inherit = (Some false); create_role = None; create_db = None; login = None; replication = None; bypass_rls = None; limit = None; password = None; valid_until = None })
    ∷ stmt.GrantRole (codes "s") (codes "r") None false None true
    ∷ stmt.GrantRole (codes "r") (codes "s") (Some (codes "r")) true None false
    ∷ stmt.GrantRole (codes "r") (codes "s") (Some (codes "r")) false None true
    ∷ stmt.GrantRole (codes "r") (codes "postgres") (Some (codes "s")) false None true
    ∷ stmt.GrantRole (codes "r") (codes "postgres") (Some (codes "s")) true (Some false) false
    ∷ stmt.AlterRole (codes "s") (record { superuser = None; inherit = None; create_role = None; create_db = None; login = (Some true); replication = None; bypass_rls = None; limit = (Some (pos 3)); password = (Some (codes "x")); valid_until = (Some (codes "2030-01-01")) })
    ∷ stmt.AlterRole (codes "s") (record { superuser = None; inherit = None; create_role = None; create_db = (Some true); login = (Some false); replication = None; bypass_rls = None; limit = None; password = None; valid_until = None })
    ∷ []

abbrev pub values_granted : Entries
values_granted =
    (key.Role (codes "postgres"), first_role true)
    ∷ (key.Role (codes "r"), created_role false)
    ∷ (key.Role (codes "s"), value.Role (record { superuser = false; inherit = true; create_role = false; create_db = true; login = false; replication = false; bypass_rls = false; limit = (pos 3); password = (Some (codes "x")); valid_until = (Some (codes "2030-01-01")) }))
    ∷ (key.Member (codes "r") (codes "postgres") (codes "s"), membership true false false)
    ∷ (key.Member (codes "r") (codes "s") (codes "r"), membership false true true)
    ∷ (key.Member (codes "s") (codes "r") (codes "postgres"), membership false false true)
    ∷ (key.Schema (codes "a"), value.Schema)
    ∷ (key.Schema (codes "b"), value.Schema)
    ∷ (key.Schema (codes "public"), value.Schema)
    ∷ (key.UserType (at (codes "public") (codes "d")), domain (Words (codes "integer")) (resolved (Words (codes "integer")) None false) false None (((codes "x"), (codes "VALUE < 9")) ∷ ((codes "y"), (codes "VALUE > 0")) ∷ []))
    ∷ (key.UserType (at (codes "public") (codes "e")), value.Enum ((codes "x") ∷ []))
    ∷ (key.Rel (at (codes "public") (codes "q")), sequence sequences.BigInt (pos 1) (pos 1) (pos 1) (pos 9223372036854775807) (pos 1) false)
    ∷ (key.Rel (at (codes "public") (codes "v")), value.View)
    ∷ (key.Owner (object.Schema (codes "a")), value.Owner (codes "postgres"))
    ∷ (key.Owner (object.Schema (codes "b")), value.Owner (codes "r"))
    ∷ (key.Owner (object.Schema (codes "public")), value.Owner (codes "postgres"))
    ∷ (key.Owner (object.Type (at (codes "public") (codes "d"))), value.Owner (codes "s"))
    ∷ (key.Owner (object.Type (at (codes "public") (codes "e"))), value.Owner (codes "postgres"))
    ∷ (key.Owner (object.Relation (at (codes "public") (codes "q"))), value.Owner (codes "s"))
    ∷ (key.Owner (object.Relation (at (codes "public") (codes "v"))), value.Owner (codes "s"))
    ∷ (key.Owner (object.Database (codes "postgres")), value.Owner (codes "postgres"))
    ∷ (key.SeqVal (at (codes "public") (codes "q")), value.SequenceValue (pos 1) false)
    ∷ (key.Acl (object.Schema (codes "a")), rights (owner (codes "UC") ∷ role (codes "r") (codes "U*") ∷ []))
    ∷ (key.Acl (object.Schema (codes "b")), rights (owner (codes "C*") ∷ []))
    ∷ (key.Acl (object.Schema (codes "public")), rights (owner (codes "UC") ∷ []))
    ∷ (key.Acl (object.Type (at (codes "public") (codes "d"))), rights (public (codes "U") ∷ []))
    ∷ (key.Acl (object.Type (at (codes "public") (codes "e"))), rights (owner (codes "U") ∷ []))
    ∷ (key.Acl (object.Relation (at (codes "public") (codes "q"))), rights (owner (codes "rwU") ∷ public (codes "rw") ∷ []))
    ∷ (key.Acl (object.Relation (at (codes "public") (codes "v"))), rights (owner (codes "ar*dDxt") ∷ []))
    ∷ (key.Body (at (codes "public") (codes "v")), value.Body (codes "SELECT 1"))
    ∷ (key.Database (codes "postgres"), value.Database encoding.Utf8)
    ∷ []
