-- The fifteen system tables of an export folder: their names, the kinds of their columns in order, and what messages call these.
-- https://www.postgresql.org/docs/16/catalogs.html
use Rattle.std.specs.Prelude.{ℕ, List, [], ◌∷◌, ◌++◌, codes}
use Rattle.cat_rows.specs.declared.table.SysTable.{SysTable}
use Rattle.cat_rows.specs.declared.table.SysTable.TheVariants.{PgAuthid, PgAuthMembers, PgDatabase, PgNamespace, PgType, PgEnum, PgClass, PgAttribute, PgAttrdef, PgConstraint, PgIndex, PgSequence, PgRewrite, PgDescription, PgDepend}
use Rattle.cat_rows.specs.declared.kind.ColKind.{ColKind}
use Rattle.cat_rows.specs.declared.kind.ColKind.TheVariants.{Oid, Int, Bool, NameCol, TextCol, NullText, Letter, Acl}

abbrev pub table_name : SysTable → List ℕ
table_name PgAuthid = codes "pg_authid"
table_name PgAuthMembers = codes "pg_auth_members"
table_name PgDatabase = codes "pg_database"
table_name PgNamespace = codes "pg_namespace"
table_name PgType = codes "pg_type"
table_name PgEnum = codes "pg_enum"
table_name PgClass = codes "pg_class"
table_name PgAttribute = codes "pg_attribute"
table_name PgAttrdef = codes "pg_attrdef"
table_name PgConstraint = codes "pg_constraint"
table_name PgIndex = codes "pg_index"
table_name PgSequence = codes "pg_sequence"
table_name PgRewrite = codes "pg_rewrite"
table_name PgDescription = codes "pg_description"
table_name PgDepend = codes "pg_depend"

-- the file of a table in an export folder
abbrev pub table_file : SysTable → List ℕ
table_file table = table_name table ++ codes ".copy"

-- the kinds of a table's columns
abbrev pub columns : SysTable → List ColKind
columns PgAuthid = Oid ∷ NameCol ∷ Bool ∷ Bool ∷ Bool ∷ Bool ∷ Bool ∷ Bool ∷ Bool ∷ Int ∷ NullText ∷ NullText ∷ []
columns PgAuthMembers = Oid ∷ Oid ∷ Oid ∷ Oid ∷ Bool ∷ Bool ∷ Bool ∷ []
columns PgDatabase = Oid ∷ NameCol ∷ Oid ∷ TextCol ∷ Bool ∷ []
columns PgNamespace = Oid ∷ NameCol ∷ Oid ∷ Acl ∷ []
columns PgType = Oid ∷ NameCol ∷ Oid ∷ Oid ∷ Letter ∷ Bool ∷ Oid ∷ TextCol ∷ NullText ∷ Acl ∷ []
columns PgEnum = Oid ∷ Oid ∷ Int ∷ TextCol ∷ []
columns PgClass = Oid ∷ NameCol ∷ Oid ∷ Letter ∷ Oid ∷ Letter ∷ Acl ∷ []
columns PgAttribute = Oid ∷ Int ∷ NameCol ∷ Oid ∷ TextCol ∷ Bool ∷ []
columns PgAttrdef = Oid ∷ Oid ∷ Int ∷ TextCol ∷ []
columns PgConstraint = Oid ∷ NameCol ∷ Letter ∷ Oid ∷ Oid ∷ Oid ∷ Oid ∷ TextCol ∷ []
columns PgIndex = Oid ∷ Oid ∷ Bool ∷ TextCol ∷ []
columns PgSequence = Oid ∷ TextCol ∷ Int ∷ Int ∷ Int ∷ Int ∷ Int ∷ Bool ∷ Int ∷ Bool ∷ Oid ∷ Int ∷ []
columns PgRewrite = Oid ∷ Oid ∷ TextCol ∷ []
columns PgDescription = Oid ∷ Oid ∷ Int ∷ TextCol ∷ []
columns PgDepend = Oid ∷ Oid ∷ Int ∷ Oid ∷ Oid ∷ Int ∷ Letter ∷ []

-- what a message calls a column
abbrev pub kind_text : ColKind → List ℕ
kind_text Oid = codes "oid"
kind_text Int = codes "integer"
kind_text Bool = codes "bool"
kind_text NameCol = codes "name"
kind_text TextCol = codes "text"
kind_text NullText = codes "text"
kind_text Letter = codes "letter"
kind_text Acl = codes "list of rights"
