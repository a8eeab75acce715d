-- The statements that make enums and domains.
use Rattle.std.specs.Prelude.{List, map, filter_map, Option, Some, None, if◌then◌else◌}
use Rattle.std.specs.Option.{option_map, option_and_then}
use Rattle.cat_rows.specs.declared.catalogue.Catalogue.{Catalogue}
use Rattle.cat_rows.specs.declared.constraints.ConstraintRow.{ConstraintRow}
use Rattle.cat_rows.specs.declared.types.TypeRow.{TypeRow}
use Rattle.cat_model.specs.declared.object.QName.{QName}
use Rattle.cat_model.specs.declared.stmt.Stmt.{Stmt}
use Rattle.cat_model.specs.declared.stmt.Stmt.TheVariants as stmt
use Rattle.cat_model.specs.declared.table.CheckDef.{CheckDef}
use Rattle.cat_model.specs.declared.type_name.TypeName.{TypeName}
use Rattle.cat_model.specs.Values.{Bytes}
use Rattle.cat_book.specs.Chains.{type_of, is_domain_letter}
use Rattle.row_texts.specs.DefaultTexts.{default_said}
use Rattle.row_texts.specs.TypeTexts.{type_named}
use Rattle.constraint_table.specs.declared.constraint_text.ConstraintText.{ConstraintText}
use Rattle.constraint_table.specs.declared.constraint_text.ConstraintText.TheVariants.{Check}
use Rattle.constraint_table.specs.Said.{constraint_said}
use Rattle.graph_parts.specs.declared.object.Obj.{Obj}
use Rattle.dump_rows.specs.Rows.{labels_of, domain_checks}
use Rattle.dump_stmts.specs.Paths.{path_of}

-- ---- checks

-- the expression of a check
abbrev pub check_text : Option ConstraintText → Option Bytes
check_text (Some (Check text)) = Some text
check_text _ = None

-- a check as a statement says it
abbrev pub check_def : ConstraintRow → Option CheckDef
check_def row = option_map (λ text. record { name = row.conname; text = text }) (check_text (constraint_said row.condef))

abbrev pub check_defs : List ConstraintRow → List CheckDef
check_defs rows = filter_map check_def rows

-- ---- types

abbrev pub enum_stmt : Catalogue → TypeRow → QName → Stmt
enum_stmt cat row q = stmt.CreateEnum q (map (λ e. e.enumlabel) (labels_of cat row.oid))

abbrev pub domain_over : Catalogue → TypeRow → QName → TypeName → Stmt
domain_over cat row q base =
    stmt.CreateDomain q base row.typnotnull (option_and_then default_said row.typdefault) (check_defs (domain_checks cat row.oid))

abbrev pub domain_stmt : Catalogue → TypeRow → QName → Option Stmt
domain_stmt cat row q = option_map (domain_over cat row q) (type_named row.basetext)

abbrev pub type_in : Catalogue → TypeRow → QName → Option Stmt
type_in cat row q = if is_domain_letter row.typtype then domain_stmt cat row q else Some (enum_stmt cat row q)

unfoldable pub type_stmt : Catalogue → Obj → Option Stmt
type_stmt cat o = option_and_then (λ row. option_and_then (type_in cat row) (path_of o)) (type_of cat.pg_type o.id.oid)
