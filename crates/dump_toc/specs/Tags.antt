-- What entries are called, and of what kind they are.
use Rattle.std.specs.Prelude.{ℕ, [], ◌++◌, Option, Some, None, unwrap_or, option_map, if◌then◌else◌, codes}
use Rattle.std.specs.Option.{option_and_then}
use Rattle.sql_lex.specs.Written.{written_name}
use Rattle.cat_rows.specs.declared.catalogue.Catalogue.{Catalogue}
use Rattle.cat_rows.specs.declared.types.TypeRow.{TypeRow}
use Rattle.cat_model.specs.declared.grant.Commented.{Commented}
use Rattle.cat_model.specs.declared.grant.Commented.TheVariants as commented
use Rattle.cat_model.specs.declared.grant.Granted.{Granted}
use Rattle.cat_model.specs.declared.grant.Granted.TheVariants as granted
use Rattle.cat_model.specs.Values.{Bytes}
use Rattle.cat_names.specs.Kinds.{class_of}
use Rattle.cat_book.specs.Chains.{type_of, is_domain_letter}
use Rattle.cat_book.specs.Leads.{constraint_of}
use Rattle.graph_parts.specs.declared.object.Obj.{Obj}
use Rattle.graph_parts.specs.declared.object.ObjKind.{ObjKind}
use Rattle.graph_parts.specs.declared.object.ObjKind.TheVariants as kind
use Rattle.dump_rows.specs.Rows.{column_at, default_of}

-- no name has no bytes
abbrev pub name_bytes : Option Bytes → Bytes
name_bytes name = unwrap_or name []

-- two words with a blank between
abbrev pub two_words : Bytes → Bytes → Bytes
two_words first second = (first ++ codes " ") ++ second

-- the name of the column of a default, and that of the table of a constraint
abbrev pub column_of : Catalogue → ℕ → Option Bytes
column_of cat oid = option_and_then (λ d. option_map (λ a. a.attname) (column_at cat d.adrelid d.adnum)) (default_of cat oid)

abbrev pub table_of : Catalogue → ℕ → Option Bytes
table_of cat oid = option_and_then (λ c. option_map (λ r. r.relname) (class_of cat.pg_class c.conrelid)) (constraint_of cat oid)

-- an object is called by its name, and some with that of their table or column
abbrev pub tag_of_kind : Catalogue → Obj → ObjKind → Bytes
tag_of_kind cat o kind.Default = two_words (name_bytes o.name) (name_bytes (column_of cat o.id.oid))
tag_of_kind cat o kind.Constraint = two_words (name_bytes (table_of cat o.id.oid)) (name_bytes o.name)
tag_of_kind cat o kind.Foreign = two_words (name_bytes (table_of cat o.id.oid)) (name_bytes o.name)
tag_of_kind cat o kind.Rule = two_words (name_bytes o.name) (codes "_RETURN")
tag_of_kind cat o other = name_bytes o.name

unfoldable pub tag_of : Catalogue → Obj → Bytes
tag_of cat o = tag_of_kind cat o o.kind

abbrev pub type_desc : Option TypeRow → Bytes
type_desc None = codes "TYPE"
type_desc (Some row) = if is_domain_letter row.typtype then codes "DOMAIN" else codes "TYPE"

abbrev pub desc_of_kind : Catalogue → Obj → ObjKind → Bytes
desc_of_kind cat o kind.Schema = codes "SCHEMA"
desc_of_kind cat o kind.UserType = type_desc (type_of cat.pg_type o.id.oid)
desc_of_kind cat o kind.Table = codes "TABLE"
desc_of_kind cat o kind.View = codes "VIEW"
desc_of_kind cat o kind.Dummy = codes "VIEW"
desc_of_kind cat o kind.Sequence = codes "SEQUENCE"
desc_of_kind cat o kind.Default = codes "DEFAULT"
desc_of_kind cat o kind.PreData = []
desc_of_kind cat o kind.TableData = codes "TABLE DATA"
desc_of_kind cat o kind.SeqValue = codes "SEQUENCE SET"
desc_of_kind cat o kind.PostData = []
desc_of_kind cat o kind.Constraint = codes "CONSTRAINT"
desc_of_kind cat o kind.Index = codes "INDEX"
desc_of_kind cat o kind.Rule = codes "RULE"
desc_of_kind cat o kind.Foreign = codes "FK CONSTRAINT"

unfoldable pub desc_of : Catalogue → Obj → Bytes
desc_of cat o = desc_of_kind cat o o.kind

-- a comment is called by what it is on
abbrev pub comment_tag : Commented → Bytes
comment_tag (commented.Schema name) = codes "SCHEMA " ++ written_name name
comment_tag (commented.Type q) = codes "TYPE " ++ written_name q.name
comment_tag (commented.Domain q) = codes "DOMAIN " ++ written_name q.name
comment_tag (commented.Table q) = codes "TABLE " ++ written_name q.name
comment_tag (commented.View q) = codes "VIEW " ++ written_name q.name
comment_tag (commented.Sequence q) = codes "SEQUENCE " ++ written_name q.name
comment_tag (commented.Index q) = codes "INDEX " ++ written_name q.name
comment_tag (commented.Column q name) = (codes "COLUMN " ++ written_name q.name) ++ (codes "." ++ written_name name)
comment_tag (commented.Constraint q name) = (codes "CONSTRAINT " ++ written_name name) ++ (codes " ON " ++ written_name q.name)

-- grants are called by what they are on
abbrev pub grants_tag : Granted → Bytes
grants_tag (granted.Table q) = codes "TABLE " ++ written_name q.name
grants_tag (granted.Sequence q) = codes "SEQUENCE " ++ written_name q.name
grants_tag (granted.Schema name) = codes "SCHEMA " ++ written_name name
grants_tag (granted.Type q) = codes "TYPE " ++ written_name q.name
