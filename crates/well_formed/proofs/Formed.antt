-- A catalogue without a fault is well-formed, and the other way round.
use Rattle.std.proofs.Common.{◌≡◌, None}
use Rattle.cat_rows.specs.declared.catalogue.Catalogue.{Catalogue}
use Rattle.cat_rows.specs.declared.table.SysTable.{SysTable}
use Rattle.cat_rows.specs.declared.table.SysTable.TheVariants.{PgAuthid, PgAuthMembers, PgDatabase, PgNamespace, PgType, PgEnum, PgClass, PgAttribute, PgAttrdef, PgConstraint, PgIndex, PgSequence, PgRewrite, PgDescription, PgDepend}
use Rattle.cat_book.proofs.Meeting.{meets, met}
use Rattle.plain_tables.specs.Roles.{role_rules, member_rules, database_rules}
use Rattle.plain_tables.specs.Schemas.{schema_rules}
use Rattle.plain_tables.specs.Labels.{label_rules}
use Rattle.plain_tables.specs.Relations.{relation_rules}
use Rattle.plain_tables.specs.Comments.{comment_rules}
use Rattle.plain_tables.specs.Depends.{depend_rules}
use Rattle.text_tables.specs.Types.{type_rules}
use Rattle.text_tables.specs.Columns.{column_rules, default_rules}
use Rattle.text_tables.specs.Indexes.{index_rules}
use Rattle.text_tables.specs.Sequences.{sequence_rules}
use Rattle.text_tables.specs.Views.{view_rules}
use Rattle.constraint_table.specs.Table.{constraint_rules}
use Rattle.well_formed.specs.Catalogues.{all_tables, table_fault, catalogue_fault}
use Rattle.well_formed.specs.Formed.{IsWellFormed}
use Rattle.well_formed.proofs.Firsts.{clean, none_found, each_clean}

pub well_formed : (cat : Catalogue) → catalogue_fault cat ≡ None → IsWellFormed cat
unfolding table_fault
well_formed cat e =
    let none : (table : SysTable) → table_fault cat table ≡ None = each_clean cat (clean cat all_tables e) in
    record {
      roles = meets role_rules cat cat.pg_authid (none PgAuthid);
      members = meets member_rules cat cat.pg_auth_members (none PgAuthMembers);
      databases = meets database_rules cat cat.pg_database (none PgDatabase);
      schemas = meets schema_rules cat cat.pg_namespace (none PgNamespace);
      types = meets type_rules cat cat.pg_type (none PgType);
      labels = meets label_rules cat cat.pg_enum (none PgEnum);
      relations = meets relation_rules cat cat.pg_class (none PgClass);
      columns = meets column_rules cat cat.pg_attribute (none PgAttribute);
      defaults = meets default_rules cat cat.pg_attrdef (none PgAttrdef);
      constraints = meets constraint_rules cat cat.pg_constraint (none PgConstraint);
      indexes = meets index_rules cat cat.pg_index (none PgIndex);
      sequences = meets sequence_rules cat cat.pg_sequence (none PgSequence);
      views = meets view_rules cat cat.pg_rewrite (none PgRewrite);
      comments = meets comment_rules cat cat.pg_description (none PgDescription);
      depends = meets depend_rules cat cat.pg_depend (none PgDepend);
    }

pub without_fault : (cat : Catalogue) → IsWellFormed cat → catalogue_fault cat ≡ None
unfolding table_fault
without_fault cat is = none_found cat none all_tables
  where
    none : (table : SysTable) → table_fault cat table ≡ None
    none PgAuthid = met role_rules cat cat.pg_authid is.roles
    none PgAuthMembers = met member_rules cat cat.pg_auth_members is.members
    none PgDatabase = met database_rules cat cat.pg_database is.databases
    none PgNamespace = met schema_rules cat cat.pg_namespace is.schemas
    none PgType = met type_rules cat cat.pg_type is.types
    none PgEnum = met label_rules cat cat.pg_enum is.labels
    none PgClass = met relation_rules cat cat.pg_class is.relations
    none PgAttribute = met column_rules cat cat.pg_attribute is.columns
    none PgAttrdef = met default_rules cat cat.pg_attrdef is.defaults
    none PgConstraint = met constraint_rules cat cat.pg_constraint is.constraints
    none PgIndex = met index_rules cat cat.pg_index is.indexes
    none PgSequence = met sequence_rules cat cat.pg_sequence is.sequences
    none PgRewrite = met view_rules cat cat.pg_rewrite is.views
    none PgDescription = met comment_rules cat cat.pg_description is.comments
    none PgDepend = met depend_rules cat cat.pg_depend is.depends
