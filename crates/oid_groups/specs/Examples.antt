-- What groups and first places look like.
use Rattle.std.specs.Prelude.{◌≡◌, pos, negsuc, List, [], ◌∷◌, Some, None}
use Rattle.oid_groups.specs.Groups.{Key, group_of, first_place}

-- two oids whose keys stand between one another
abbrev pub interleaved : List Key
interleaved = (7, pos 1) ∷ (9, pos 1) ∷ (7, pos 2) ∷ (9, pos 2) ∷ (7, pos 3) ∷ []

-- keys of one oid whose numbers fall, rise and repeat
abbrev pub mixed : List Key
mixed = (7, pos 3) ∷ (7, negsuc 1) ∷ (7, pos 0) ∷ (7, negsuc 0) ∷ (7, pos 0) ∷ (7, negsuc 1) ∷ []

pub record Groups : Type 0 where
  pub none : group_of [] 7 ≡ []
  pub no_such_oid : group_of interleaved 8 ≡ []
  pub one : group_of ((7, pos 1) ∷ (7, pos 2) ∷ []) 7 ≡ 0 ∷ 1 ∷ []
  pub first_of_two : group_of interleaved 7 ≡ 0 ∷ 2 ∷ 4 ∷ []
  pub second_of_two : group_of interleaved 9 ≡ 1 ∷ 3 ∷ []
  pub out_of_order : group_of ((7, pos 3) ∷ (7, pos 1) ∷ (7, pos 2) ∷ []) 7 ≡ 1 ∷ 2 ∷ 0 ∷ []
  pub below_zero : group_of ((7, pos 0) ∷ (7, negsuc 0) ∷ (7, negsuc 1) ∷ []) 7 ≡ 2 ∷ 1 ∷ 0 ∷ []
  pub equal_numbers : group_of ((7, pos 1) ∷ (7, pos 0) ∷ (7, pos 1) ∷ []) 7 ≡ 1 ∷ 0 ∷ 2 ∷ []
  pub all_at_once : group_of mixed 7 ≡ 1 ∷ 5 ∷ 3 ∷ 2 ∷ 4 ∷ 0 ∷ []

pub record FirstPlaces : Type 0 where
  pub none : first_place [] 7 (pos 1) ≡ None
  pub found : first_place interleaved 9 (pos 2) ≡ Some 3
  pub other_number : first_place interleaved 9 (pos 3) ≡ None
  pub other_oid : first_place interleaved 8 (pos 1) ≡ None
  pub below_zero : first_place mixed 7 (negsuc 0) ≡ Some 3
  pub first_of_equals : first_place mixed 7 (pos 0) ≡ Some 2
