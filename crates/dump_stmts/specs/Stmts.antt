-- The statement that makes an object, and its text.
use Rattle.std.specs.Prelude.{ℕ, List, [], Option, Some, None, if◌then◌else◌, codes}
use Rattle.cat_rows.specs.declared.catalogue.Catalogue.{Catalogue}
use Rattle.cat_model.specs.declared.stmt.Stmt.{Stmt}
use Rattle.cat_model.specs.declared.stmt.Stmt.TheVariants as stmt
use Rattle.cat_model.specs.Values.{Bytes}
use Rattle.graph_parts.specs.declared.object.Obj.{Obj}
use Rattle.graph_parts.specs.declared.object.ObjKind.{ObjKind}
use Rattle.graph_parts.specs.declared.object.ObjKind.TheVariants as kind
use Rattle.dump_stmts.specs.Paths.{written, is_public}
use Rattle.dump_stmts.specs.Types.{type_stmt}
use Rattle.dump_stmts.specs.Tables.{table_stmt, default_stmt}
use Rattle.dump_stmts.specs.Views.{view_stmt, dummy_stmt, rule_stmt}
use Rattle.dump_stmts.specs.Sequences.{sequence_stmt, value_stmt}
use Rattle.dump_stmts.specs.Keys.{constraint_stmt, index_stmt}

-- the schema public is never made
abbrev pub schema_named : Bytes → Option Stmt
schema_named name = if is_public name then None else Some (stmt.CreateSchema name)

abbrev pub schema_stmt : Option Bytes → Option Stmt
schema_stmt None = None
schema_stmt (Some name) = schema_named name

-- the statement that makes an object of a kind; where tables have the defaults but for those of the given oids
abbrev pub stmt_of_kind : Catalogue → List ℕ → Obj → ObjKind → Option Stmt
stmt_of_kind cat standing o kind.Schema = schema_stmt o.name
stmt_of_kind cat standing o kind.UserType = type_stmt cat o
stmt_of_kind cat standing o kind.Table = table_stmt cat standing o
stmt_of_kind cat standing o kind.View = view_stmt cat o
stmt_of_kind cat standing o kind.Dummy = dummy_stmt cat o
stmt_of_kind cat standing o kind.Sequence = sequence_stmt cat o
stmt_of_kind cat standing o kind.Default = default_stmt cat o
stmt_of_kind cat standing o kind.PreData = None
stmt_of_kind cat standing o kind.TableData = None
stmt_of_kind cat standing o kind.SeqValue = value_stmt cat o
stmt_of_kind cat standing o kind.PostData = None
stmt_of_kind cat standing o kind.Constraint = constraint_stmt cat o
stmt_of_kind cat standing o kind.Index = index_stmt cat o
stmt_of_kind cat standing o kind.Rule = rule_stmt cat o
stmt_of_kind cat standing o kind.Foreign = constraint_stmt cat o

unfoldable pub stmt_of : Catalogue → List ℕ → Obj → Option Stmt
stmt_of cat standing o = stmt_of_kind cat standing o o.kind

-- ---- texts

-- a comment stands in place of the statement of the schema public
abbrev pub schema_defn : Option Bytes → Bytes
schema_defn None = []
schema_defn (Some name) = if is_public name then codes "-- *not* creating schema, since initdb creates it\n" else written (schema_named name)

abbrev pub defn_of_kind : Catalogue → List ℕ → Obj → ObjKind → Bytes
defn_of_kind cat standing o kind.Schema = schema_defn o.name
defn_of_kind cat standing o other = written (stmt_of_kind cat standing o other)

-- what an entry has as its definition
unfoldable pub defn_of : Catalogue → List ℕ → Obj → Bytes
defn_of cat standing o = defn_of_kind cat standing o o.kind
