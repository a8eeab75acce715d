-- What the tables keep of the opening, beside what stands for the catalogue: the columns of views, and dependencies.
use Rattle.std.specs.Prelude.{not}
use Rattle.std.specs.List.{filter}
use Rattle.cat_rows.specs.declared.catalogue.Catalogue.{Catalogue}
use Rattle.cat_names.specs.Kinds.{kind_of, is_table}
use Rattle.cat_book.specs.Meets.{Meets}
use Rattle.plain_tables.specs.Depends.{depend_rules}
use Rattle.well_formed.specs.Columns.{column_rules}

-- columns of views, beside those of tables, and dependencies meet the conditions of their tables
pub record AreKept (cat : Catalogue) : Type 0 where
  pub view_columns : Meets column_rules cat (filter (λ a. not (is_table (kind_of cat.pg_class a.attrelid))) cat.pg_attribute)
  pub depends : Meets depend_rules cat cat.pg_depend
