-- Worked examples: two entries that create one schema; two tables with a foreign key and their rows.
use Rattle.std.specs.Prelude.{ℕ, Bool, true, false, List, [], ◌∷◌, Option, Some, None, codes}
use Rattle.std.specs.FinMap.{from_sorted}
use Rattle.cat_model.specs.declared.object.QName.{QName}
use Rattle.cat_model.specs.declared.grant.Owned.TheVariants as owned
use Rattle.cat_model.specs.declared.key.Key.TheVariants as key
use Rattle.cat_model.specs.declared.stmt.Stmt.{Stmt}
use Rattle.cat_model.specs.declared.stmt.Stmt.TheVariants as stmt
use Rattle.cat_model.specs.declared.type_name.TypeName.TheVariants.{Words, Path}
use Rattle.cat_model.specs.declared.table.ColumnDef.{ColumnDef}
use Rattle.cat_model.specs.declared.value.Value.TheVariants as value
use Rattle.cat_model.specs.Values.{Bytes, Named}
use Rattle.restore_plan.specs.declared.kind.Kind.{Kind}
use Rattle.restore_plan.specs.declared.kind.Kind.TheVariants as kind
use Rattle.restore_plan.specs.declared.step.Step.{Step}
use Rattle.restore_plan.specs.declared.entry.Entry.{Entry}

-- an opening with the schema public and nothing else
abbrev pub with_public : Named
with_public = from_sorted ((key.Schema (codes "public"), value.Schema) ∷ [])

abbrev pub postgres : Bytes
postgres = codes "postgres"

-- an entry of one statement
abbrev pub pre_data : ℕ → Kind → List ℕ → Stmt → Entry
pre_data id kind listed statement = record { id = id; post_data = false; kind = kind; listed = listed; steps = record { statement = statement; is_owner = false } ∷ [] }

abbrev pub post_data : ℕ → Kind → List ℕ → Stmt → Entry
post_data id kind listed statement = record { id = id; post_data = true; kind = kind; listed = listed; steps = record { statement = statement; is_owner = false } ∷ [] }

-- ---- one schema twice

abbrev pub two_schemas : List Entry
two_schemas = pre_data 5 kind.Other [] (stmt.CreateSchema (codes "a")) ∷ pre_data 6 kind.Other [] (stmt.CreateSchema (codes "a")) ∷ []

-- ---- a table p with a primary key, and a table c whose rows have parents in p

abbrev pub path : Bytes → QName
path name = record { schema = codes "public"; name = name }

abbrev pub column : Bytes → ColumnDef
column name = record { name = name; type_name = Path (record { schema = codes "pg_catalog"; name = codes "int4" }); «default» = None; not_null = false }

abbrev pub table_c : Entry
table_c = pre_data 6 kind.Table [] (stmt.CreateTable (path (codes "c")) (column (codes "p_id") ∷ []) [])

abbrev pub table_p : Entry
table_p = pre_data 7 kind.Table [] (stmt.CreateTable (path (codes "p")) (column (codes "id") ∷ []) [])

abbrev pub rows_of_c : Entry
rows_of_c = pre_data 8 kind.TableData (6 ∷ []) (stmt.CopyRows (path (codes "c")) (codes "p_id" ∷ []) (codes "1\n"))

abbrev pub rows_of_p : Bytes → Entry
rows_of_p rows = pre_data 9 kind.TableData (7 ∷ []) (stmt.CopyRows (path (codes "p")) (codes "id" ∷ []) rows)

abbrev pub primary_key : Entry
primary_key = post_data 10 kind.Other (7 ∷ []) (stmt.AddPrimary (path (codes "p")) (codes "p_pkey") (codes "id" ∷ []) [])

abbrev pub foreign_key : Entry
foreign_key = post_data 11 kind.Other (6 ∷ 10 ∷ []) (stmt.AddForeign (path (codes "c")) (codes "c_fk") (codes "p_id" ∷ []) (path (codes "p")) (codes "id" ∷ []) [])

-- the keys first, then the rows of p, then those of c
abbrev pub parents_first : List Entry
parents_first = table_c ∷ table_p ∷ primary_key ∷ foreign_key ∷ rows_of_p (codes "1\n") ∷ rows_of_c ∷ []

-- the rows of c before those of p
abbrev pub children_first : List Entry
children_first = table_c ∷ table_p ∷ primary_key ∷ foreign_key ∷ rows_of_c ∷ rows_of_p (codes "1\n") ∷ []

-- two rows of p have one key, and the rows come before the keys
abbrev pub equal_parents : List Entry
equal_parents = table_c ∷ table_p ∷ rows_of_c ∷ rows_of_p (codes "1\n1\n") ∷ primary_key ∷ foreign_key ∷ []

-- the rows of p come before an entry that locks p, which itself isn't in the list
abbrev pub table_left_out : List Entry
table_left_out = rows_of_p (codes "1\n") ∷ primary_key ∷ []

-- ---- what depends on p behind the rows of p: a view, which is no post-data, an index, and two checks

abbrev pub view : Entry
view = pre_data 12 kind.Other (7 ∷ []) (stmt.CreateView (path (codes "v")) (codes "SELECT p.id FROM public.p"))

abbrev pub index : Entry
index = post_data 13 kind.Index (7 ∷ []) (stmt.CreateIndex (path (codes "p")) (codes "p_i") (codes "btree") (codes "(id)"))

abbrev pub check : ℕ → Bytes → Entry
check id name = post_data id kind.Other (7 ∷ 20 ∷ []) (stmt.AddCheck (path (codes "p")) name (codes "(id > 0)"))

abbrev pub behind_rows : List Entry
behind_rows = table_p ∷ rows_of_p (codes "1\n") ∷ view ∷ index ∷ check 14 (codes "p_a") ∷ check 15 (codes "p_b") ∷ []

-- ---- an owner that isn't there: two schemas in one entry, with the owner statement of the first between them, and an
-- entry that depends on it and makes the second schema again

abbrev pub two_made : Entry
two_made = record {
  id = 5;
  post_data = false;
  kind = kind.Other;
  listed = [];
  steps =
      record { statement = stmt.CreateSchema (codes "a"); is_owner = false }
      ∷ record { statement = stmt.OwnerTo (owned.Schema (codes "a")) (codes "alice"); is_owner = true }
      ∷ record { statement = stmt.CreateSchema (codes "b"); is_owner = false } ∷ [];
}

abbrev pub owner_missing : List Entry
owner_missing = two_made ∷ pre_data 6 kind.Other (5 ∷ []) (stmt.CreateSchema (codes "b")) ∷ []

-- the same statement where it isn't the entry's owner statement
abbrev pub no_owner_statement : List Entry
no_owner_statement = pre_data 5 kind.Other [] (stmt.OwnerTo (owned.Schema (codes "public")) (codes "alice")) ∷ pre_data 6 kind.Other (5 ∷ []) (stmt.CreateSchema (codes "b")) ∷ []
