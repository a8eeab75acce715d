-- What a set knows of the labels of an enum.
use Rattle.std.specs.Prelude.{◌≡◌, ℕ, List}
use Rattle.std.specs.List.{list_any}
use Rattle.std.specs.Borrow.{Bor}
use Rattle.std.specs.HashSet.{HashSet, contains_by}
use Rattle.cat_model.specs.Lexemes.{same_text}

-- the set has exactly these labels
abbrev pub AreLabels : {S : Type 0} → List (List ℕ) → HashSet (Bor (List ℕ)) S → Type 0
AreLabels labels set = (text : List ℕ) → contains_by (λ label. same_text text label.now) set ≡ list_any (same_text text) labels
