-- Well-formed catalogues: each table's rows meet its conditions.
use Rattle.cat_rows.specs.declared.catalogue.Catalogue.{Catalogue}
use Rattle.cat_book.specs.Meets.{Meets}
use Rattle.plain_tables.specs.Roles.{role_rules, member_rules, database_rules}
use Rattle.plain_tables.specs.Schemas.{schema_rules}
use Rattle.plain_tables.specs.Labels.{label_rules}
use Rattle.plain_tables.specs.Relations.{relation_rules}
use Rattle.plain_tables.specs.Comments.{comment_rules}
use Rattle.plain_tables.specs.Depends.{depend_rules}
use Rattle.text_tables.specs.Types.{type_rules}
use Rattle.text_tables.specs.Columns.{column_rules, default_rules}
use Rattle.text_tables.specs.Indexes.{index_rules}
use Rattle.text_tables.specs.Sequences.{sequence_rules}
use Rattle.text_tables.specs.Views.{view_rules}
use Rattle.constraint_table.specs.Table.{constraint_rules}

pub record IsWellFormed (cat : Catalogue) : Type 0 where
  pub roles : Meets role_rules cat cat.pg_authid
  pub members : Meets member_rules cat cat.pg_auth_members
  pub databases : Meets database_rules cat cat.pg_database
  pub schemas : Meets schema_rules cat cat.pg_namespace
  pub types : Meets type_rules cat cat.pg_type
  pub labels : Meets label_rules cat cat.pg_enum
  pub relations : Meets relation_rules cat cat.pg_class
  pub columns : Meets column_rules cat cat.pg_attribute
  pub defaults : Meets default_rules cat cat.pg_attrdef
  pub constraints : Meets constraint_rules cat cat.pg_constraint
  pub indexes : Meets index_rules cat cat.pg_index
  pub sequences : Meets sequence_rules cat cat.pg_sequence
  pub views : Meets view_rules cat cat.pg_rewrite
  pub comments : Meets comment_rules cat cat.pg_description
  pub depends : Meets depend_rules cat cat.pg_depend
