-- The statements that add primary keys, unique constraints, foreign keys and indexes.
use Rattle.std.specs.Prelude.{Option, Some, None, if◌then◌else◌}
use Rattle.std.specs.Option.{option_map, option_and_then}
use Rattle.cat_rows.specs.declared.catalogue.Catalogue.{Catalogue}
use Rattle.cat_rows.specs.declared.constraints.ConstraintRow.{ConstraintRow}
use Rattle.cat_model.specs.declared.object.QName.{QName}
use Rattle.cat_model.specs.declared.stmt.Stmt.{Stmt}
use Rattle.cat_model.specs.declared.stmt.Stmt.TheVariants as stmt
use Rattle.cat_model.specs.Values.{Bytes}
use Rattle.cat_book.specs.Leads.{constraint_of}
use Rattle.cat_book.specs.Paths.{class_path_of}
use Rattle.row_texts.specs.IndexTexts.{index_said}
use Rattle.row_texts.specs.declared.index_text.IndexText.{IndexText}
use Rattle.constraint_table.specs.Said.{statement_said}
use Rattle.graph_parts.specs.declared.object.Obj.{Obj}
use Rattle.dump_rows.specs.Rows.{index_of}

-- what a statement adds, as a constraint of this name to this table
abbrev pub added_to : QName → Bytes → Stmt → Option Stmt
added_to q name (stmt.AddPrimary table key columns rest) = Some (stmt.AddPrimary q name columns rest)
added_to q name (stmt.AddUnique table key columns rest) = Some (stmt.AddUnique q name columns rest)
added_to q name (stmt.AddForeign table key columns parent parent_columns rest) = Some (stmt.AddForeign q name columns parent parent_columns rest)
added_to q name _ = None

abbrev pub added : ConstraintRow → QName → Option Stmt
added row q = option_and_then (added_to q row.conname) (statement_said row.condef)

unfoldable pub constraint_stmt : Catalogue → Obj → Option Stmt
constraint_stmt cat o = option_and_then (λ row. option_and_then (added row) (class_path_of cat row.conrelid)) (constraint_of cat o.id.oid)

-- an index, as its text says it
abbrev pub index_by : IndexText → Stmt
index_by said =
    if said.unique then stmt.CreateUniqueIndex said.table said.name said.method said.rest
    else stmt.CreateIndex said.table said.name said.method said.rest

unfoldable pub index_stmt : Catalogue → Obj → Option Stmt
index_stmt cat o = option_and_then (λ row. option_map index_by (index_said row.indexdef)) (index_of cat o.id.oid)
