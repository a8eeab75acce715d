-- The first fault of a catalogue: that of the first table that has one, in the order in which the tables are listed.
use Rattle.std.specs.Prelude.{List, [], ◌∷◌, ◌++◌, Option, None}
use Rattle.cat_rows.specs.declared.catalogue.Catalogue.{Catalogue}
use Rattle.cat_rows.specs.declared.table.SysTable.{SysTable}
use Rattle.cat_rows.specs.declared.table.SysTable.TheVariants.{PgAuthid, PgAuthMembers, PgDatabase, PgNamespace, PgType, PgEnum, PgClass, PgAttribute, PgAttrdef, PgConstraint, PgIndex, PgSequence, PgRewrite, PgDescription, PgDepend}
use Rattle.cat_names.specs.declared.fault.CatFault.{CatFault}
use Rattle.cat_names.specs.declared.fault.LineFault.{LineFault}
use Rattle.cat_names.specs.Findings.{in_table, fault_before}
use Rattle.cat_book.specs.Rules.{fault_by}
use Rattle.plain_tables.specs.Roles.{role_rules, member_rules, database_rules}
use Rattle.plain_tables.specs.Schemas.{schema_rules}
use Rattle.plain_tables.specs.Labels.{label_rules}
use Rattle.plain_tables.specs.Relations.{relation_rules}
use Rattle.plain_tables.specs.Comments.{comment_rules}
use Rattle.plain_tables.specs.Depends.{depend_rules}
use Rattle.text_tables.specs.Types.{type_rules}
use Rattle.text_tables.specs.Columns.{column_rules, default_rules}
use Rattle.text_tables.specs.Indexes.{index_rules}
use Rattle.text_tables.specs.Sequences.{sequence_rules}
use Rattle.text_tables.specs.Views.{view_rules}
use Rattle.constraint_table.specs.Table.{constraint_rules}

-- the first fault of a table
unfoldable pub table_fault : Catalogue → SysTable → Option LineFault
table_fault cat PgAuthid = fault_by role_rules cat cat.pg_authid
table_fault cat PgAuthMembers = fault_by member_rules cat cat.pg_auth_members
table_fault cat PgDatabase = fault_by database_rules cat cat.pg_database
table_fault cat PgNamespace = fault_by schema_rules cat cat.pg_namespace
table_fault cat PgType = fault_by type_rules cat cat.pg_type
table_fault cat PgEnum = fault_by label_rules cat cat.pg_enum
table_fault cat PgClass = fault_by relation_rules cat cat.pg_class
table_fault cat PgAttribute = fault_by column_rules cat cat.pg_attribute
table_fault cat PgAttrdef = fault_by default_rules cat cat.pg_attrdef
table_fault cat PgConstraint = fault_by constraint_rules cat cat.pg_constraint
table_fault cat PgIndex = fault_by index_rules cat cat.pg_index
table_fault cat PgSequence = fault_by sequence_rules cat cat.pg_sequence
table_fault cat PgRewrite = fault_by view_rules cat cat.pg_rewrite
table_fault cat PgDescription = fault_by comment_rules cat cat.pg_description
table_fault cat PgDepend = fault_by depend_rules cat cat.pg_depend

-- the first fault of these tables, in their order
unfoldable pub first_in : Catalogue → List SysTable → Option CatFault
first_in cat [] = None
first_in cat (table ∷ tables) = fault_before (in_table table (table_fault cat table)) (first_in cat tables)

-- the tables in their order: of the cluster, of types and relations, of columns and constraints, of what indexes, sequences
-- and views have to themselves, and of comments and dependencies
abbrev pub cluster : List SysTable
cluster = PgAuthid ∷ PgAuthMembers ∷ PgDatabase ∷ PgNamespace ∷ []

abbrev pub objects : List SysTable
objects = PgType ∷ PgEnum ∷ PgClass ∷ []

abbrev pub columns : List SysTable
columns = PgAttribute ∷ PgAttrdef ∷ PgConstraint ∷ []

abbrev pub own_rows : List SysTable
own_rows = PgIndex ∷ PgSequence ∷ PgRewrite ∷ []

abbrev pub notes : List SysTable
notes = PgDescription ∷ PgDepend ∷ []

abbrev pub all_tables : List SysTable
all_tables = cluster ++ objects ++ columns ++ own_rows ++ notes

-- the first fault of a catalogue
abbrev pub catalogue_fault : Catalogue → Option CatFault
catalogue_fault cat = first_in cat all_tables
