-- The statements that make tables, and defaults that stand alone; and the line of COPY that takes the rows of a table.
use Rattle.std.specs.Prelude.{ℕ, List, [], ◌∷◌, ◌++◌, filter_map, Option, None, unwrap_or, if◌then◌else◌, codes}
use Rattle.std.specs.List.{flat_map}
use Rattle.std.specs.Option.{option_map, option_and_then}
use Rattle.sql_lex.specs.Written.{written_name}
use Rattle.cat_rows.specs.declared.catalogue.Catalogue.{Catalogue}
use Rattle.cat_rows.specs.declared.relations.AttributeRow.{AttributeRow}
use Rattle.cat_rows.specs.declared.relations.AttrdefRow.{AttrdefRow}
use Rattle.cat_model.specs.declared.object.QName.{QName}
use Rattle.cat_model.specs.declared.stmt.Stmt.{Stmt}
use Rattle.cat_model.specs.declared.stmt.Stmt.TheVariants as stmt
use Rattle.cat_model.specs.declared.table.ColumnDef.{ColumnDef}
use Rattle.cat_model.specs.declared.type_name.TypeName.{TypeName}
use Rattle.cat_model.specs.Values.{Bytes}
use Rattle.cat_names.specs.Lookups.{has_oid}
use Rattle.ddl_write.specs.Paths.{path}
use Rattle.row_texts.specs.DefaultTexts.{default_said}
use Rattle.row_texts.specs.TypeTexts.{type_named}
use Rattle.graph_parts.specs.declared.object.Obj.{Obj}
use Rattle.dump_rows.specs.Rows.{columns_of, table_checks, column_at, default_at, default_of}
use Rattle.dump_stmts.specs.Paths.{path_of}
use Rattle.dump_stmts.specs.Types.{check_defs}

-- ---- tables

-- the default that a column has in its table's statement; one that stands alone, by its oid, isn't there
abbrev pub unless_standing : List ℕ → AttrdefRow → Option Bytes
unless_standing standing row = if has_oid standing row.oid then None else default_said row.adexpr

abbrev pub inline_default : Catalogue → List ℕ → AttributeRow → Option Bytes
inline_default cat standing row = option_and_then (unless_standing standing) (default_at cat row.attrelid row.attnum)

abbrev pub typed_column : Catalogue → List ℕ → AttributeRow → TypeName → ColumnDef
typed_column cat standing row type_name = record { name = row.attname; type_name = type_name; default = inline_default cat standing row; not_null = row.attnotnull }

abbrev pub column_def : Catalogue → List ℕ → AttributeRow → Option ColumnDef
column_def cat standing row = option_map (typed_column cat standing row) (type_named row.typtext)

abbrev pub column_defs : Catalogue → List ℕ → List AttributeRow → List ColumnDef
column_defs cat standing rows = filter_map (column_def cat standing) rows

abbrev pub table_at : Catalogue → List ℕ → ℕ → QName → Stmt
table_at cat standing oid q = stmt.CreateTable q (column_defs cat standing (columns_of cat oid)) (check_defs (table_checks cat oid))

unfoldable pub table_stmt : Catalogue → List ℕ → Obj → Option Stmt
table_stmt cat standing o = option_map (table_at cat standing o.id.oid) (path_of o)

-- ---- defaults that stand alone

abbrev pub set_default : QName → Bytes → AttributeRow → Stmt
set_default q text column = stmt.SetDefault q column.attname text

abbrev pub default_in : Catalogue → AttrdefRow → QName → Option Stmt
default_in cat row q = option_and_then (λ text. option_map (set_default q text) (column_at cat row.adrelid row.adnum)) (default_said row.adexpr)

unfoldable pub default_stmt : Catalogue → Obj → Option Stmt
default_stmt cat o = option_and_then (λ row. option_and_then (default_in cat row) (path_of o)) (default_of cat o.id.oid)

-- ---- rows

abbrev pub more_names : List AttributeRow → Bytes
more_names columns = flat_map (λ a. codes ", " ++ written_name a.attname) columns

-- the names of columns in brackets; none where there is no column
unfoldable pub column_list : List AttributeRow → Bytes
column_list [] = []
column_list (first ∷ more) = (codes " (" ++ written_name first.attname) ++ more_names more ++ codes ")"

-- the line of COPY that names all columns
unfoldable pub copy_line : QName → List AttributeRow → Bytes
copy_line q columns = (codes "COPY " ++ path q) ++ column_list columns ++ codes " FROM stdin;\n"

abbrev pub copy_of : Catalogue → Obj → Bytes
copy_of cat o = unwrap_or (option_map (λ q. copy_line q (columns_of cat o.id.oid)) (path_of o)) []
