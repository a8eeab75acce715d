-- The statements that take objects away again.
use Rattle.std.specs.Prelude.{[], ◌++◌, Option, Some, None, unwrap_or, if◌then◌else◌, codes}
use Rattle.std.specs.Option.{option_map}
use Rattle.sql_lex.specs.Written.{written_name}
use Rattle.cat_rows.specs.declared.catalogue.Catalogue.{Catalogue}
use Rattle.cat_rows.specs.declared.constraints.ConstraintRow.{ConstraintRow}
use Rattle.cat_rows.specs.declared.relations.AttrdefRow.{AttrdefRow}
use Rattle.cat_rows.specs.declared.relations.AttributeRow.{AttributeRow}
use Rattle.cat_rows.specs.declared.types.TypeRow.{TypeRow}
use Rattle.cat_model.specs.declared.object.QName.{QName}
use Rattle.cat_model.specs.Values.{Bytes}
use Rattle.cat_book.specs.Chains.{type_of, is_domain_letter}
use Rattle.cat_book.specs.Leads.{constraint_of}
use Rattle.cat_book.specs.Paths.{class_path_of}
use Rattle.ddl_write.specs.Paths.{path, ending}
use Rattle.graph_parts.specs.declared.object.Obj.{Obj}
use Rattle.graph_parts.specs.declared.object.ObjKind.{ObjKind}
use Rattle.graph_parts.specs.declared.object.ObjKind.TheVariants as kind
use Rattle.dump_rows.specs.Rows.{column_at, default_of}
use Rattle.dump_stmts.specs.Paths.{path_of, written, is_public}
use Rattle.dump_stmts.specs.Views.{rule_drop_stmt}

-- words, a path and the end
abbrev pub path_drop : Bytes → Option QName → Bytes
path_drop words None = []
path_drop words (Some q) = (words ++ path q) ++ ending

-- a comment stands in place of the statement of the schema public
abbrev pub schema_drop : Option Bytes → Bytes
schema_drop None = []
schema_drop (Some name) = if is_public name then codes "-- *not* dropping schema, since initdb creates it\n" else (codes "DROP SCHEMA " ++ written_name name) ++ ending

abbrev pub type_words : TypeRow → Bytes
type_words row = if is_domain_letter row.typtype then codes "DROP DOMAIN " else codes "DROP TYPE "

abbrev pub type_drop : Option TypeRow → Option QName → Bytes
type_drop None q = []
type_drop (Some row) q = path_drop (type_words row) q

-- a table's path and a name, each behind words, and the end
abbrev pub part_drop : Bytes → QName → Bytes → Bytes → Bytes → Bytes
part_drop table q words name end = (table ++ path q) ++ (words ++ written_name name) ++ end

abbrev pub column_drop : Option QName → AttributeRow → Bytes
column_drop None column = []
column_drop (Some q) column = part_drop (codes "ALTER TABLE ") q (codes " ALTER COLUMN ") column.attname (codes " DROP DEFAULT;\n")

abbrev pub default_drop : Catalogue → Option QName → AttrdefRow → Bytes
default_drop cat q row = unwrap_or (option_map (column_drop q) (column_at cat row.adrelid row.adnum)) []

abbrev pub constraint_drop : Catalogue → ConstraintRow → Bytes
constraint_drop cat row =
    unwrap_or (option_map (λ q. part_drop (codes "ALTER TABLE ONLY ") q (codes " DROP CONSTRAINT ") row.conname (codes ";\n")) (class_path_of cat row.conrelid)) []

abbrev pub drop_of_kind : Catalogue → Obj → ObjKind → Bytes
drop_of_kind cat o kind.Schema = schema_drop o.name
drop_of_kind cat o kind.UserType = type_drop (type_of cat.pg_type o.id.oid) (path_of o)
drop_of_kind cat o kind.Table = path_drop (codes "DROP TABLE ") (path_of o)
drop_of_kind cat o kind.View = path_drop (codes "DROP VIEW ") (path_of o)
drop_of_kind cat o kind.Dummy = path_drop (codes "DROP VIEW ") (path_of o)
drop_of_kind cat o kind.Sequence = path_drop (codes "DROP SEQUENCE ") (path_of o)
drop_of_kind cat o kind.Default = unwrap_or (option_map (default_drop cat (path_of o)) (default_of cat o.id.oid)) []
drop_of_kind cat o kind.PreData = []
drop_of_kind cat o kind.TableData = []
drop_of_kind cat o kind.SeqValue = []
drop_of_kind cat o kind.PostData = []
drop_of_kind cat o kind.Constraint = unwrap_or (option_map (constraint_drop cat) (constraint_of cat o.id.oid)) []
drop_of_kind cat o kind.Foreign = unwrap_or (option_map (constraint_drop cat) (constraint_of cat o.id.oid)) []
drop_of_kind cat o kind.Index = path_drop (codes "DROP INDEX ") (path_of o)
drop_of_kind cat o kind.Rule = written (rule_drop_stmt cat o)

-- what an entry has to take its object away; nothing where nothing does by itself
unfoldable pub drop_of : Catalogue → Obj → Bytes
drop_of cat o = drop_of_kind cat o o.kind
