use Rattle.std.proofs.Common.{refl}
use Rattle.cat_names.specs.Findings.{first_from}
use Rattle.cat_names.specs.Lookups.{role_name}
use Rattle.cat_names.specs.Rights.{has_bad_item}
use Rattle.well_formed.specs.Catalogues.{table_fault, first_in}
use Rattle.table_laws.proofs.laws.clusters_meet_the_examples.Goals as goal

pub returns-clause-schemas : goal.returns-clause-schemas
unfolding first_from role_name has_bad_item first_in table_fault
returns-clause-schemas c = record {
  empty = refl;
  none = refl;
  second_oid = refl;
  second_name = refl;
  oid_first = refl;
  no_owner = refl;
  own_schema = refl;
  no_oid = refl;
  no_role = refl;
  no_such_right = refl;
  two_items = refl;
  owner_and_all = refl;
  without_letters = refl;
  by_other = refl;
}

pub returns-clause-roles : goal.returns-clause-roles
unfolding first_from role_name has_bad_item first_in table_fault
returns-clause-roles c = record {
  no_boot = refl;
  none = refl;
  twice = refl;
  named_public = refl;
}

pub returns-clause-members : goal.returns-clause-members
unfolding first_from role_name has_bad_item first_in table_fault
returns-clause-members c = record {
  one = refl;
  twice = refl;
  by_another = refl;
  no_role = refl;
}

pub returns-clause-databases : goal.returns-clause-databases
unfolding first_from role_name has_bad_item first_in table_fault
returns-clause-databases c = record {
  another_encoding = refl;
  none_current = refl;
  two_current = refl;
}
