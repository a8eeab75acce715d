use Rattle.std.proofs.Common.{refl}
use Rattle.cat_names.specs.Findings.{first_from}
use Rattle.cat_names.specs.Lookups.{role_name}
use Rattle.cat_names.specs.Rights.{has_bad_item}
use Rattle.well_formed.specs.Catalogues.{table_fault}
use Rattle.table_laws.proofs.laws.objects_meet_the_examples.Goals as goal

pub returns-clause-labels : goal.returns-clause-labels
unfolding first_from table_fault
returns-clause-labels c = record {
  two = refl;
  falling = refl;
  second_gone = refl;
  place_twice = refl;
  no_place = refl;
  label_twice = refl;
  of_domain = refl;
  of_schema = refl;
}

pub returns-clause-relations : goal.returns-clause-relations
unfolding first_from role_name has_bad_item table_fault
returns-clause-relations c = record {
  tables = refl;
  name_twice = refl;
  sequence = refl;
  no_sequence_row = refl;
  no_rewrite_row = refl;
  no_index_row = refl;
  materialized = refl;
  unlogged = refl;
  create_on_table = refl;
  read_by_all = refl;
  rights_on_index = refl;
}

pub returns-clause-comments : goal.returns-clause-comments
unfolding first_from table_fault
returns-clause-comments c = record {
  on_each = refl;
  twice = refl;
  of_two_classes = refl;
  no_column = refl;
  column_of_view = refl;
  no_column_of_view = refl;
  column_of_sequence = refl;
  column_of_schema = refl;
  of_domain = refl;
  other_class = refl;
}

pub returns-clause-depends : goal.returns-clause-depends
unfolding first_from table_fault
returns-clause-depends c = record {
  identity = refl;
  serial = refl;
  inheritance = refl;
  column = refl;
}
