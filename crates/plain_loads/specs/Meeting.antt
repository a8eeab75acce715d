-- A table that takes the rows of a text, said of the text's lines and of the texts of the other tables.
use Rattle.std.specs.Prelude.{◌≡◌, ℕ, true, List, [], Option, Some, None, if◌then◌else◌}
use Rattle.std.specs.FinMap.{entries, get}
use Rattle.std.specs.List.{AllByRecursion, filter_map}
use Rattle.std.specs.Option.{option_map}
use Rattle.std.specs.Result.{is_ok}
use Rattle.copy_text.specs.Lines.{data_lines}
use Rattle.cat_rows.specs.declared.catalogue.Catalogue.{Catalogue}
use Rattle.cat_model.specs.declared.class.Class.TheVariants as class
use Rattle.cat_model.specs.declared.key.Key.{Key}
use Rattle.cat_model.specs.declared.key.Key.TheVariants as key
use Rattle.cat_model.specs.declared.object.QName.{QName}
use Rattle.cat_model.specs.declared.value.Column.{Column}
use Rattle.cat_model.specs.declared.value.Value.{Value}
use Rattle.cat_model.specs.declared.value.Value.TheVariants as value
use Rattle.cat_model.specs.Values.{Bytes, Named, Row}
use Rattle.cat_model.specs.CopyEffect.{Foreign, Unique, foreign_in, primary_columns, unique_in}
use Rattle.cat_model.specs.KeyEffects.{columns_of, rows_in}
use Rattle.cat_model.specs.RowTexts.{rows_held}
use Rattle.cat_model.specs.Tables.{orphan, repeated}
use Rattle.cat_model.specs.Trees.{class_of, same_path}
use Rattle.cat_names.specs.DataSets.{TextsByOid}
use Rattle.cat_book.specs.Paths.{class_path_of}
use Rattle.data_rows.specs.Rows.{rows_of}
use Rattle.table_rows.specs.Tables.{column_count}
use Rattle.table_rows.specs.Values.{text_of}
use Rattle.rows_named.specs.Tables.{first_table}
use Rattle.plain_rows.specs.Lines.{LineFits}

-- the constraints of a table, and its indexes
abbrev pub constraints_of : Named → QName → List (Key × Value)
constraints_of named q = entries (class_of named (class.Constraints q))

abbrev pub indexes_of : Named → QName → List (Key × Value)
indexes_of named q = entries (class_of named (class.Indexes q))

-- the text of the table of an oid, where there is one
abbrev pub text_at : TextsByOid → Option ℕ → Bytes
text_at texts None = []
text_at texts (Some oid) = text_of texts oid

-- the text of the rows that a parent of the table q has, of which this is the text
abbrev pub parent_text : Catalogue → TextsByOid → QName → Bytes → QName → Bytes
parent_text cat texts q text parent = if same_path q parent then text else text_at texts (first_table cat parent cat.pg_class)

-- each row has a parent
abbrev pub HasParents : Named → Catalogue → TextsByOid → QName → List Column → Bytes → Foreign → Type 0
HasParents named cat texts q columns text f =
    orphan columns f.columns (rows_held text) (columns_of (get named (key.Rel f.parent))) f.parent_columns (rows_held (parent_text cat texts q text f.parent)) ≡ None

-- the columns of a foreign key, its parent and the columns there
abbrev pub Parts : Type 0
Parts = List Bytes × QName × List Bytes

abbrev pub parts : Foreign → Parts
parts f = (f.columns, f.parent, f.parent_columns)

-- no two rows have one key
abbrev pub Differ : List Column → Bytes → Unique → Type 0
Differ columns text u = repeated columns u.1 (rows_held text) ≡ None

-- The catalogue by names has the table; each line of the text fits it, no two rows have a key in common, and each row has
-- its parents.
pub record Meets (named : Named) (cat : Catalogue) (texts : TextsByOid) (q : QName) (text : Bytes) : Type 0 where
  pub columns : List Column
  pub table : get named (key.Rel q) ≡ Some (value.Table columns)
  pub lines : AllByRecursion (LineFits columns (primary_columns (constraints_of named q))) (data_lines text)
  pub unique : AllByRecursion (Differ columns text) (filter_map unique_in (constraints_of named q))
  pub distinct : AllByRecursion (Differ columns text) (filter_map unique_in (indexes_of named q))
  pub parents : AllByRecursion (HasParents named cat texts q columns text) (filter_map foreign_in (constraints_of named q))

abbrev pub MeetsAt : Named → Catalogue → TextsByOid → ℕ → Option QName → Type 0
MeetsAt named cat texts table None = Unit {0}
MeetsAt named cat texts table (Some q) = Meets named cat texts q (text_of texts table)

-- the table of an oid takes the rows of its text, if it has a path
abbrev pub TableMeets : Named → Catalogue → TextsByOid → ℕ → Type 0
TableMeets named cat texts table = MeetsAt named cat texts table (class_path_of cat table)

-- the text of the table of an oid holds rows of it
abbrev pub HasRows : Catalogue → TextsByOid → ℕ → Type 0
HasRows cat texts table = is_ok (rows_of (column_count cat table) (text_of texts table)) ≡ true

-- the same, and the table takes them
abbrev pub TableTakes : Named → Catalogue → TextsByOid → ℕ → Type 0
TableTakes named cat texts table = TableMeets named cat texts table × HasRows cat texts table
