-- What is kept of the labels of a column's type.
use Rattle.std.specs.Prelude.{ℕ, List, Option, Some, None}
use Rattle.std.specs.Borrow.{Bor}
use Rattle.std.specs.HashSet.{HashSet}
use Rattle.field_values.specs.Labels.{AreLabels}

-- the labels of an enum as a set, and none of any other type
abbrev pub KnowsLabels : {S : Type 0} → Option (List (List ℕ)) → Option (HashSet (Bor (List ℕ)) S) → Type 0
KnowsLabels None None = Unit {0}
KnowsLabels (Some labels) (Some set) = AreLabels labels set
KnowsLabels None (Some set) = ⊥
KnowsLabels (Some labels) None = ⊥
