-- What a map and a set know of the keys of rows: where each key stood first, and which are there.
use Rattle.std.specs.Prelude.{◌≡◌, ℕ, Bool, false, not, List, Option, Some, None, nat_eq}
use Rattle.std.specs.List.{list_any}
use Rattle.std.specs.Cmp.Lexicographic.{pointwise}
use Rattle.std.specs.HashMap as hash
use Rattle.std.specs.HashMap.{HashMap}
use Rattle.std.specs.HashSet as bag
use Rattle.std.specs.HashSet.{HashSet}
use Rattle.cat_model.specs.Tables.{place_of, same_key}

-- the map has the number of the first row with a key, counted from 1, exactly where one of these rows has it
abbrev pub IsKnown : {S : Type 0} → List (Option (List (List ℕ))) → HashMap (List (List ℕ)) ℕ S → Type 0
IsKnown rows known = (key : List (List ℕ)) → hash.get (pointwise (pointwise nat_eq)) known key ≡ place_of 1 (Some key) rows

-- the set has a key exactly where one of these rows has it
abbrev pub AreAmong : {S : Type 0} → List (Option (List (List ℕ))) → HashSet (List (List ℕ)) S → Type 0
AreAmong rows parents = (key : List (List ℕ)) → bag.contains (pointwise (pointwise nat_eq)) parents key ≡ list_any (same_key (Some key)) rows

-- a key without a null that none of the parents has
abbrev pub is_orphan : List (Option (List (List ℕ))) → Option (List (List ℕ)) → Bool
is_orphan parents None = false
is_orphan parents (Some key) = not (list_any (same_key (Some key)) parents)
