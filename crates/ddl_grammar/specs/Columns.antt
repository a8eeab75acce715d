-- The columns of a key: names with commas in brackets, one at least.
use Rattle.std.specs.Prelude.{ℕ, List, ◌∷◌}
use Rattle.ddl_parts.specs.{Lexemes.is_sign, Parts.Part, Parts.Items, Parts.many, Parts.seen, Parts.◌then◌, Parts.◌▸◌, Parts.◌◂◌, Lists.comma, Leaves.name}

-- names behind the first, each with its comma
abbrev pub more_names : Items (List ℕ)
more_names = record {
  State = Unit {0};
  start = tt;
  more = λ s. comma;
  item = λ s. comma ▸ name;
  next = λ s v. tt;
}

abbrev pub further : Part (List (List ℕ))
further = many comma more_names

abbrev pub names_of : List ℕ × List (List ℕ) → List (List ℕ)
names_of x = x.0 ∷ x.1

unfoldable pub columns : Part (List (List ℕ))
columns = is_sign 40 ▸ (seen names_of (name then further) ◂ is_sign 41)
