-- What a map knows of the names of a list.
use Rattle.std.specs.Prelude.{◌≡◌, ℕ, List}
use Rattle.std.specs.List.{position_from}
use Rattle.std.specs.Borrow.{Bor}
use Rattle.std.specs.HashMap.{HashMap, get_by}
use Rattle.cat_model.specs.Lexemes.{same_text}

-- the map has each name of the list at the place where it stands first, and no other
abbrev pub ArePlaces : {S : Type 0} → List (List ℕ) → HashMap (Bor (List ℕ)) ℕ S → Type 0
ArePlaces names first = (name : List ℕ) → get_by (λ n. same_text name n.now) first ≡ position_from (same_text name) 0 names
