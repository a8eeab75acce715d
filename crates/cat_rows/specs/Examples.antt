-- Worked examples of numbers, cells, lines, tables and orders.
use Rattle.std.specs.Prelude.{◌≡◌, ℕ, List, [], ◌∷◌, ◌++◌, replicate, None, Some, Ok, Err, true, false, pos, negsuc, codes}
use Rattle.std.specs.List.{join_with_byte}
use Rattle.copy_text.specs.Marks.{tab, newline}
use Rattle.copy_text.specs.declared.fault.CopyFault.TheVariants.{RawReturn}
use Rattle.cat_rows.specs.declared.table.SysTable.TheVariants.{PgNamespace, PgEnum, PgDescription}
use Rattle.cat_rows.specs.declared.kind.ColKind.TheVariants as kinds
use Rattle.cat_rows.specs.declared.cell.Cell.{Cell}
use Rattle.cat_rows.specs.declared.cell.Cell.TheVariants as cells
use Rattle.cat_rows.specs.declared.fault.RowFault.TheVariants.{Copy, Columns, BadCell}
use Rattle.cat_rows.specs.Kinds.{columns}
use Rattle.cat_rows.specs.Numbers.{oid_of, int_of}
use Rattle.cat_rows.specs.Cells.{cell_of}
use Rattle.cat_rows.specs.Order.{comes_before}
use Rattle.cat_rows.specs.Reading.{cells_of, table_of}
use Rattle.cat_rows.specs.Writing.{text_of}

pub record Oids : Type 0 where
  pub zero : oid_of (codes "0") ≡ Some 0
  pub greatest : oid_of (codes "4294967295") ≡ Some 4294967295
  pub too_great : oid_of (codes "4294967296") ≡ None
  pub leading_zero : oid_of (codes "010") ≡ None
  pub plus : oid_of (codes "+1") ≡ None
  pub minus : oid_of (codes "-1") ≡ None
  pub nothing : oid_of [] ≡ None
  pub blank : oid_of (codes " 1") ≡ None

pub record Integers : Type 0 where
  pub zero : int_of (codes "0") ≡ Some (pos 0)
  pub minus_one : int_of (codes "-1") ≡ Some (negsuc 0)
  pub greatest : int_of (codes "9223372036854775807") ≡ Some (pos 9223372036854775807)
  pub too_great : int_of (codes "9223372036854775808") ≡ None
  pub least : int_of (codes "-9223372036854775808") ≡ Some (negsuc 9223372036854775807)
  pub too_small : int_of (codes "-9223372036854775809") ≡ None
  pub leading_zero : int_of (codes "-01") ≡ None
  pub minus_zero : int_of (codes "-0") ≡ None
  pub plus : int_of (codes "+1") ≡ None
  pub lone_minus : int_of (codes "-") ≡ None

pub record OtherCells : Type 0 where
  pub bool : cell_of kinds.Bool (Some (codes "t")) ≡ Some (cells.Bool true)
  pub no_bool : cell_of kinds.Bool (Some (codes "true")) ≡ None
  pub letter : cell_of kinds.Letter (Some (codes "r")) ≡ Some (cells.Letter 114)
  pub two_letters : cell_of kinds.Letter (Some (codes "rr")) ≡ None
  pub no_name : cell_of kinds.NameCol (Some []) ≡ None
  pub empty_text : cell_of kinds.TextCol (Some []) ≡ Some (cells.Text [])
  pub null_for_text : cell_of kinds.TextCol None ≡ None
  pub null : cell_of kinds.NullText None ≡ Some (cells.NullText None)
  pub default_rights : cell_of kinds.Acl None ≡ Some (cells.Acl None)
  pub no_list : cell_of kinds.Acl (Some (codes "{")) ≡ None

-- fields with a tab between two
abbrev pub line_of : List (List ℕ) → List ℕ
line_of fields = join_with_byte tab fields

-- the letter n so many times
abbrev pub name_of_length : ℕ → List ℕ
name_of_length n = replicate n 110

abbrev pub schema_line : List ℕ → List ℕ → List ℕ
schema_line oid name = line_of (oid ∷ name ∷ codes "10" ∷ codes "\\N" ∷ [])

abbrev pub schema_row : ℕ → List ℕ → List Cell
schema_row oid name = cells.Oid oid ∷ cells.Name name ∷ cells.Oid 10 ∷ cells.Acl None ∷ []

-- lines of pg_namespace
pub record SchemaLines : Type 0 where
  pub row : cells_of (columns PgNamespace) (schema_line (codes "2200") (codes "public")) ≡ Ok (schema_row 2200 (codes "public"))
  pub three_columns : cells_of (columns PgNamespace) (line_of (codes "2200" ∷ codes "public" ∷ codes "10" ∷ [])) ≡ Err (Columns 3)
  pub empty_line : cells_of (columns PgNamespace) [] ≡ Err (Columns 1)
  pub bad_oid : cells_of (columns PgNamespace) (schema_line (codes "x") (codes "public")) ≡ Err (BadCell 1 kinds.Oid)
  pub longest_name : cells_of (columns PgNamespace) (schema_line (codes "1") (name_of_length 63)) ≡ Ok (schema_row 1 (name_of_length 63))
  pub long_name : cells_of (columns PgNamespace) (schema_line (codes "1") (name_of_length 64)) ≡ Err (BadCell 2 kinds.NameCol)
  pub first_bad : cells_of (columns PgNamespace) (schema_line (codes "x") []) ≡ Err (BadCell 1 kinds.Oid)
  pub columns_first : cells_of (columns PgNamespace) (line_of (codes "x" ∷ [] ∷ [])) ≡ Err (Columns 2)
  pub copy_first : cells_of (columns PgNamespace) (codes "x" ++ 13 ∷ []) ≡ Err (Copy (RawReturn 1))

-- texts of pg_namespace
pub record SchemaTables : Type 0 where
  pub none : table_of PgNamespace [] ≡ Ok []
  pub second_line : table_of PgNamespace (schema_line (codes "1") (codes "a") ++ newline ∷ schema_line (codes "01") (codes "b") ++ newline ∷ codes "x") ≡ Err (record { line = 2; fault = BadCell 1 kinds.Oid })
  pub end_mark : table_of PgNamespace (schema_line (codes "1") (codes "a") ++ newline ∷ codes "\\." ++ newline ∷ codes "x") ≡ Ok (schema_row 1 (codes "a") ∷ [])
  pub written : text_of (schema_row 1 (codes "a") ∷ schema_row 2 (codes "b") ∷ []) ≡ schema_line (codes "1") (codes "a") ++ newline ∷ schema_line (codes "2") (codes "b") ++ newline ∷ []

abbrev pub enum_row : ℕ → ℕ → ℕ → List Cell
enum_row oid type at = cells.Oid oid ∷ cells.Oid type ∷ cells.Int (pos at) ∷ cells.Text (codes "label") ∷ []

abbrev pub comment_row : ℕ → ℕ → ℕ → List Cell
comment_row object class column = cells.Oid object ∷ cells.Oid class ∷ cells.Int (pos column) ∷ cells.Text (codes "comment") ∷ []

-- which rows come before which
pub record Orders : Type 0 where
  pub schemas : comes_before PgNamespace (schema_row 9 (codes "b")) (schema_row 10 (codes "a")) ≡ true
  pub labels : comes_before PgEnum (enum_row 3 8 2) (enum_row 1 9 1) ≡ true
  pub places : comes_before PgEnum (enum_row 2 9 1) (enum_row 1 9 2) ≡ true
  pub classes : comes_before PgDescription (comment_row 9 1247 0) (comment_row 1 1259 0) ≡ true
  pub objects : comes_before PgDescription (comment_row 1 1259 2) (comment_row 2 1259 1) ≡ true
  pub tie : comes_before PgNamespace (schema_row 9 (codes "b")) (schema_row 9 (codes "a")) ≡ false
