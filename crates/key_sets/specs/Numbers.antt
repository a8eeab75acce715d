-- Keys that have a number, and the keys of a set.
use Rattle.std.specs.Prelude.{ℕ, ◌+◌, ◌-◌, ◌*◌, Bool, false, ◌&&◌, List, length, get_or, nat_le, nat_lt, if◌then◌else◌}
use Rattle.std.specs.Borrow.{Bor}
use Rattle.std.specs.HashSet.{HashSet, contains_by}
use Rattle.std.specs.List.{fold, list_all}
use Rattle.cat_model.specs.Lexemes.{same_text}

abbrev pub longest : ℕ
longest = 18446744073709551615

abbrev pub is_digit : ℕ → Bool
is_digit b = nat_le 48 b && nat_le b 57

-- the number that digits spell behind a one, so that no two texts of digits have one number
abbrev pub number_of : List ℕ → ℕ
number_of key = fold (λ n b. n * 10 + (b - 48)) 1 key

-- digits whose number is one of the first ones
abbrev pub is_numbered : ℕ → List ℕ → Bool
is_numbered many key = list_all is_digit key && nat_lt (number_of key) many

-- a key is in the set: by the mark at its number, or among the others
abbrev pub has : {S : Type 0} → List Bool → HashSet (Bor (List ℕ)) S → List ℕ → Bool
has numbered others key =
    if is_numbered (length numbered) key then get_or numbered (number_of key) false
    else contains_by (λ other. same_text key other.now) others
