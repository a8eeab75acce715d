-- How many of the places that are left need a place, and which are free.
use Rattle.std.specs.Prelude.{◌≡◌, ℕ, ◌+◌, ◌<◌, Bool, ◌&&◌, not, nat_eq, List, [], ◌∷◌, length, slice_index, sum_by, if◌then◌else◌}
use Rattle.graph_walks.specs.Arcs.{Arc, is_in}

abbrev pub one_if : Bool → ℕ
one_if b = if b then 1 else 0

-- how many of the arcs end at a place
abbrev pub ending : List Arc → ℕ → ℕ
ending [] place = 0
ending (arc ∷ arcs) place = one_if (nat_eq arc.1 place) + ending arcs place

-- how many of them begin at a place that isn't placed yet
abbrev pub waiting : List Arc → List ℕ → ℕ → ℕ
waiting [] placed place = 0
waiting (arc ∷ arcs) placed place = one_if (nat_eq arc.1 place && not (is_in arc.0 placed)) + waiting arcs placed place

-- how often a place stands in a list
abbrev pub times : ℕ → List ℕ → ℕ
times place places = sum_by (λ other. one_if (nat_eq place other)) places

-- of the places that nothing waits for each stands once among the free ones, unless it is `gone`, and no other does
pub record AreFree (gone : ℕ → ℕ) (counts free : List ℕ) : Type 0 where
  pub each : (place : ℕ) → place < length counts → times place free + gone place ≡ one_if (nat_eq (slice_index counts place) 0)

-- these arcs are taken out of the counts
pub record AreReleased (arcs : List Arc) (before after : List ℕ) : Type 0 where
  pub count_is : length after ≡ length before
  pub each : (place : ℕ) → place < length before → slice_index after place + ending arcs place ≡ slice_index before place
