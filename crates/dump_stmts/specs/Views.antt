-- The statements that make views, dummy views and the rules that give these their bodies.
use Rattle.std.specs.Prelude.{ℕ, List, [], ◌∷◌, ◌++◌, filter_map, Option, codes}
use Rattle.std.specs.List.{flat_map}
use Rattle.std.specs.Option.{option_map, option_and_then}
use Rattle.sql_lex.specs.Written.{written_name}
use Rattle.cat_rows.specs.declared.catalogue.Catalogue.{Catalogue}
use Rattle.cat_rows.specs.declared.relations.AttributeRow.{AttributeRow}
use Rattle.cat_rows.specs.declared.relations.RewriteRow.{RewriteRow}
use Rattle.cat_model.specs.declared.object.QName.{QName}
use Rattle.cat_model.specs.declared.stmt.Stmt.{Stmt}
use Rattle.cat_model.specs.declared.stmt.Stmt.TheVariants as stmt
use Rattle.cat_model.specs.declared.type_name.TypeName.{TypeName}
use Rattle.cat_model.specs.Values.{Bytes}
use Rattle.ddl_write.specs.Tables.{type_text}
use Rattle.row_texts.specs.TypeTexts.{type_named}
use Rattle.row_texts.specs.ViewTexts.{view_body}
use Rattle.graph_parts.specs.declared.object.Obj.{Obj}
use Rattle.dump_rows.specs.Rows.{columns_of, rewrite_of, view_rewrite}
use Rattle.dump_stmts.specs.Paths.{path_of}

-- ---- the body of a dummy view

-- a column: a null of its type
abbrev pub null_of : AttributeRow → TypeName → Bytes
null_of row type_name = (codes "NULL::" ++ type_text type_name) ++ (codes " AS " ++ written_name row.attname)

abbrev pub null_column : AttributeRow → Option Bytes
null_column row = option_map (null_of row) (type_named row.typtext)

abbrev pub null_columns : List AttributeRow → List Bytes
null_columns rows = filter_map null_column rows

-- each text in a line of its own, with commas between them
unfoldable pub select_lines : List Bytes → Bytes
select_lines [] = []
select_lines (first ∷ more) = (codes "\n    " ++ first) ++ flat_map (λ line. codes ",\n    " ++ line) more

unfoldable pub select_of : List Bytes → Bytes
select_of columns = codes "SELECT" ++ select_lines columns

abbrev pub dummy_body : Catalogue → ℕ → Bytes
dummy_body cat view = select_of (null_columns (columns_of cat view))

-- ---- statements

abbrev pub view_of : RewriteRow → QName → Option Stmt
view_of row q = option_map (stmt.CreateView q) (view_body row.viewdef)

unfoldable pub view_stmt : Catalogue → Obj → Option Stmt
view_stmt cat o = option_and_then (λ row. option_and_then (view_of row) (path_of o)) (view_rewrite cat o.id.oid)

unfoldable pub dummy_stmt : Catalogue → Obj → Option Stmt
dummy_stmt cat o = option_map (λ q. stmt.CreateView q (dummy_body cat o.id.oid)) (path_of o)

abbrev pub replaced_by : RewriteRow → QName → Option Stmt
replaced_by row q = option_map (stmt.ReplaceView q) (view_body row.viewdef)

-- a rule gives a dummy view its body
unfoldable pub rule_stmt : Catalogue → Obj → Option Stmt
rule_stmt cat o = option_and_then (λ row. option_and_then (replaced_by row) (path_of o)) (rewrite_of cat o.id.oid)

abbrev pub dummy_again : Catalogue → RewriteRow → QName → Stmt
dummy_again cat row q = stmt.ReplaceView q (dummy_body cat row.ev_class)

-- what takes the rule away makes it a dummy view again
unfoldable pub rule_drop_stmt : Catalogue → Obj → Option Stmt
rule_drop_stmt cat o = option_and_then (λ row. option_map (dummy_again cat row) (path_of o)) (rewrite_of cat o.id.oid)
