-- Worked examples: statements one after another from an opening, with what each of them says.
use Rattle.std.specs.Prelude.{◌≡◌, ℕ, ℤ, pos, Bool, true, false, List, [], ◌∷◌, Option, Some, None, Result, Ok, Err, codes}
use Rattle.std.specs.FinMap.{get, from_sorted}
use Rattle.cat_model.specs.declared.object.QName.{QName}
use Rattle.cat_model.specs.declared.object.Object.TheVariants as object
use Rattle.cat_model.specs.declared.key.Key.TheVariants as key
use Rattle.cat_model.specs.declared.cause.Cause.{Cause}
use Rattle.cat_model.specs.declared.cause.Cause.TheVariants as cause
use Rattle.cat_model.specs.declared.constraint.SequenceKind.TheVariants as sequences
use Rattle.cat_model.specs.declared.type_name.TypeName.TheVariants.{Words, Path}
use Rattle.cat_model.specs.declared.table.ColumnDef.{ColumnDef}
use Rattle.cat_model.specs.declared.stmt.Stmt.{Stmt}
use Rattle.cat_model.specs.declared.stmt.Stmt.TheVariants as stmt
use Rattle.cat_model.specs.declared.value.Value.TheVariants as value
use Rattle.cat_model.specs.declared.value.Value.{Value}
use Rattle.cat_model.specs.Values.{Bytes, Named}
use Rattle.cat_model.specs.Effects.{effect}
use Rattle.cat_model.specs.Trees.{Change, seen, outcome, next}

-- ---- statements one after another

abbrev pub cause_in : Result (List Change) Cause → Option Cause
cause_in (Ok changes) = None
cause_in (Err cause) = Some cause

-- why each of the statements is refused, or None; a refused one changes nothing
abbrev pub causes : Bytes → List Stmt → Named → List (Option Cause)
causes boot [] named = []
causes boot (s ∷ ss) named = cause_in (outcome (effect boot s) (seen named)) ∷ causes boot ss (next (effect boot s) named)

-- the catalogue behind the statements
abbrev pub catalogue_after : Bytes → List Stmt → Named → Named
catalogue_after boot [] named = named
catalogue_after boot (s ∷ ss) named = catalogue_after boot ss (next (effect boot s) named)

-- ---- what the examples are about

-- the schema public, and nothing else
abbrev pub opening : Named
opening = from_sorted ((key.Schema (codes "public"), value.Schema) ∷ [])

abbrev pub postgres : Bytes
postgres = codes "postgres"

abbrev pub public : Bytes → QName
public name = record { schema = codes "public"; name = name }

abbrev pub column : Bytes → Bytes → ColumnDef
column name type = record { name = name; type_name = Words type; «default» = None; not_null = false }

abbrev pub table : Bytes → Bytes → Stmt
table name type = stmt.CreateTable (public name) (column (codes "n") type ∷ []) []

abbrev pub copy : Bytes → Bytes → Stmt
copy name rows = stmt.CopyRows (public name) [] rows

-- a column n for the key of a table
abbrev pub n : List Bytes
n = codes "n" ∷ []

-- ---- the examples

-- a sequence from 1 on
abbrev pub setvals : List Stmt
setvals =
    stmt.CreateSequence (public (codes "s")) sequences.BigInt (pos 1) (pos 1) (pos 1) (pos 9223372036854775807) (pos 1) false
    ∷ stmt.SetVal (public (codes "s")) (pos 0) true
    ∷ stmt.SetVal (public (codes "s")) (pos 1) true
    ∷ []

-- the greatest bigint, and one more
abbrev pub bigints : List Stmt
bigints =
    table (codes "t") (codes "BigInt")
    ∷ copy (codes "t") (codes "9223372036854775807\n")
    ∷ copy (codes "t") (codes "9223372036854775808\n")
    ∷ copy (codes "t") (codes "1\n9223372036854775808\n")
    ∷ []

-- rows of a child before and after those of its parent
abbrev pub children : List Stmt
children =
    table (codes "p") (codes "integer")
    ∷ table (codes "c") (codes "integer")
    ∷ copy (codes "p") (codes "1\n2\n")
    ∷ stmt.AddPrimary (public (codes "p")) (codes "p_pkey") n []
    ∷ stmt.AddForeign (public (codes "c")) (codes "c_fk") n (public (codes "p")) n []
    ∷ copy (codes "c") (codes "2\n\\N\n7\n8\n")
    ∷ copy (codes "p") (codes "7\n")
    ∷ copy (codes "c") (codes "2\n\\N\n7\n")
    ∷ []

-- rows with equal keys: a, b, b, a
abbrev pub equal_rows : List Stmt
equal_rows =
    table (codes "t") (codes "text")
    ∷ copy (codes "t") (codes "a\nb\nb\na\n\\N\n\\N\n")
    ∷ stmt.AddUnique (public (codes "t")) (codes "t_n_key") n []
    ∷ stmt.AddPrimary (public (codes "t")) (codes "t_pkey") n []
    ∷ stmt.CreateUniqueIndex (public (codes "t")) (codes "t_i") (codes "btree") (codes "(n)")
    ∷ stmt.CreateUniqueIndex (public (codes "t")) (codes "t_i") (codes "btree") (codes "(lower(n))")
    ∷ []

-- a domain that its check names, and one that its default names
abbrev pub domains : List Stmt
domains =
    stmt.CreateDomain (public (codes "d")) (Words (codes "text")) false None (record { name = codes "d_check"; text = codes "VALUE <> 'x'::public.d" } ∷ [])
    ∷ stmt.CreateDomain (public (codes "e")) (Words (codes "text")) false (Some (codes "'x'::public.e")) []
    ∷ []

-- a view of a relation that is there, of one that isn't, and of none: one of the system, functions, a FROM of EXTRACT
abbrev pub views : List Stmt
views =
    table (codes "t") (codes "text")
    ∷ stmt.CreateView (public (codes "v")) (codes "SELECT 1 FROM public.t x, pg_catalog.pg_class y WHERE x.n IS DISTINCT FROM public.f(1)")
    ∷ stmt.CreateView (public (codes "w")) (codes "SELECT extract(year FROM public.q) FROM public.t JOIN (SELECT 2 FROM public.q) r ON true")
    ∷ []
