use Rattle.std.proofs.Common.{refl}
use Rattle.oid_groups.specs.Orders.{placed, by_number}
use Rattle.oid_groups.proofs.laws.worked_examples.Goals as goal

pub returns : goal.returns
unfolding placed by_number
returns c = record {
  groups = record {
    none = refl;
    no_such_oid = refl;
    one = refl;
    first_of_two = refl;
    second_of_two = refl;
    out_of_order = refl;
    below_zero = refl;
    equal_numbers = refl;
    all_at_once = refl;
  };
  first_places = record { none = refl; found = refl; other_number = refl; other_oid = refl; below_zero = refl; first_of_equals = refl };
}
