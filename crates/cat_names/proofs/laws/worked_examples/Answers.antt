use Rattle.std.proofs.Common.{refl}
use Rattle.cat_names.specs.Lookups.{role_name}
use Rattle.cat_names.specs.Grants.{grants_of}
use Rattle.cat_names.proofs.laws.worked_examples.Goals as goal

pub returns : goal.returns
unfolding role_name grants_of
returns c = record {
  other_oids = refl;
  other_role_oids = refl;
  other_current = refl;
  one_more = refl;
  spelled_out = refl;
  repeated_letter = refl;
  no_items = refl;
  without_rights = refl;
  of_others = refl;
  boot_role = refl;
}
