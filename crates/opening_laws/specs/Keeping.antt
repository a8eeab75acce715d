-- What tables keep of an opening, and the oids of what began as one.
use Rattle.std.specs.Prelude.{◌≡◌, List, not}
use Rattle.std.specs.List.{filter}
use Rattle.cat_rows.specs.declared.catalogue.Catalogue.{Catalogue}
use Rattle.cat_rows.specs.declared.relations.AttributeRow.{AttributeRow}
use Rattle.cat_rows.specs.declared.relations.ClassRow.{ClassRow}
use Rattle.cat_names.specs.Kinds.{is_table, kind_of}
use Rattle.entry_ids.specs.Entries.{AreUnused}
use Rattle.object_ids.specs.Ids.{IdsOf, KeepIds}
use Rattle.opening_ids.specs.Opening.{opening_ids}

-- those columns that are of no table
abbrev pub other_columns : List ClassRow → List AttributeRow → List AttributeRow
other_columns classes columns = filter (λ a. not (is_table (kind_of classes a.attrelid))) columns

-- the columns of what is no table are the opening's, and so are the dependencies
pub record KeepRows (opening cat : Catalogue) : Type 0 where
  pub columns : other_columns cat.pg_class cat.pg_attribute ≡ other_columns cat.pg_class opening.pg_attribute
  pub depends : cat.pg_depend ≡ opening.pg_depend

-- what had an oid by the opening's rows has it, and all others have oids that these rows and dependencies don't name
pub record BeganAs (opening : Catalogue) (ids : IdsOf) : Type 0 where
  pub keep : KeepIds (opening_ids opening) ids
  pub unused : AreUnused (opening_ids opening) ids
