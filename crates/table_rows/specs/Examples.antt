-- Worked examples: a small catalogue, and texts of its tables.
use Rattle.std.specs.Prelude.{◌≡◌, ℕ, pos, false, [], ◌∷◌, Option, Some, None, if◌then◌else◌, ◌==◌, codes}
use Rattle.cat_rows.specs.declared.catalogue.Catalogue.{Catalogue}
use Rattle.cat_rows.specs.declared.relations.AttributeRow.{AttributeRow}
use Rattle.cat_rows.specs.declared.relations.ClassRow.{ClassRow}
use Rattle.cat_rows.specs.Catalogues.{no_rows}
use Rattle.cat_model.specs.Values.{Bytes}
use Rattle.copy_text.specs.declared.fault.CopyFault.TheVariants.{EndsInBackslash}
use Rattle.data_rows.specs.declared.fault.DataFault.TheVariants.{BadRow, Fields}
use Rattle.table_rows.specs.declared.fault.ValuesFault.{ValuesFault}
use Rattle.table_rows.specs.Tables.{table_oids, column_count}
use Rattle.table_rows.specs.Values.{first_fault}

abbrev pub relation : ℕ → ℕ → ClassRow
relation oid letter = record { oid = oid; relname = codes "r"; relnamespace = 2200; relkind = letter; relowner = 10; relpersistence = 112; relacl = None }

abbrev pub column : ℕ → ℕ → AttributeRow
column oid number = record { attrelid = oid; attnum = pos number; attname = codes "c"; atttypid = 23; typtext = codes "integer"; attnotnull = false }

-- the tables 16400, 16385 and 16390, a view and a sequence
abbrev pub small : Catalogue
small = record no_rows {
  pg_class = relation 16400 114 ∷ relation 16386 118 ∷ relation 16385 114 ∷ relation 16387 83 ∷ relation 16390 114 ∷ [];
  pg_attribute = column 16400 1 ∷ column 16386 1 ∷ column 16400 2 ∷ column 16385 1 ∷ [];
}

pub record Tables : Type 0 where
  pub none : table_oids no_rows ≡ []
  pub by_oid : table_oids small ≡ 16385 ∷ 16390 ∷ 16400 ∷ []
  pub twice : table_oids (record no_rows { pg_class = relation 7 114 ∷ relation 5 114 ∷ relation 7 114 ∷ [] }) ≡ 5 ∷ 7 ∷ 7 ∷ []
  pub two_columns : column_count small 16400 ≡ 2
  pub no_columns : column_count small 16390 ≡ 0

-- the texts of its tables
abbrev pub texts : Bytes → Bytes → Bytes → ℕ → Bytes
texts one none two table = if table == 16385 then one else if table == 16390 then none else two

-- what is wrong with them
abbrev pub found : Bytes → Bytes → Bytes → Option ValuesFault
found one none two = first_fault (column_count small) (texts one none two) (table_oids small)

pub record Texts : Type 0 where
  pub nothing : found [] [] [] ≡ None
  pub rows : found (codes "1\n2\n") [] (codes "1\ta\n") ≡ None
  pub after_end : found (codes "1\n\\.\n1\t2\n") [] [] ≡ None
  pub too_many : found (codes "1\n2\t3\n") [] [] ≡ Some (record { table = 16385; row = 2; fault = Fields 2 })
  pub too_few : found [] [] (codes "1\n") ≡ Some (record { table = 16400; row = 1; fault = Fields 1 })
  pub no_columns : found [] (codes "\n") [] ≡ Some (record { table = 16390; row = 1; fault = Fields 1 })
  pub least_oid : found (codes "1\n2\n\t\n") (codes "\n") [] ≡ Some (record { table = 16385; row = 3; fault = Fields 2 })
  pub copy_first : found [] [] (codes "1\\\n") ≡ Some (record { table = 16400; row = 1; fault = BadRow (EndsInBackslash 1) })
