-- What a place needs, one by one.
use Rattle.std.proofs.Common.{◌≡◌, ℕ, ◌<◌, ◌≤◌, true, List, length, map, get_or, inl, inr, sym, subst, ◌∙◌, arith}
use Rattle.std.specs.Prelude.{nat_eq}
use Rattle.std.specs.List.{AllByRecursion}
use Rattle.std.proofs.lemmas.Bool.{cases_lt, eqb-true}
use Rattle.std.proofs.lemmas.List.{length-map, get_or-map}
use Rattle.std.proofs.lemmas.List.Elements.{All-from_recursion}
use Rattle.graph_walks.specs.Arcs.{Arc, needs, arcs_from}
use Rattle.graph_walks.specs.Starts.{IsRising}
use Rattle.graph_walks.proofs.Ascending.{each_kept}
use Rattle.graph_walks.proofs.Grouped.{needed_end}
use Rattle.graph_walks.proofs.Standings.{at_in}
use Rattle.graph_walks.proofs.Tests.{each_arc}

-- ---- the arcs of a place

abbrev pub none : Arc
none = (0, 0)

-- the places that a place needs, in order
abbrev pub child : List Arc → ℕ → ℕ → ℕ
child arcs a j = (get_or (arcs_from a arcs) j none).1

abbrev pub children : List Arc → ℕ → ℕ
children arcs a = length (arcs_from a arcs)

pub child_needed : (arcs : List Arc) (a j : ℕ) → j < children arcs a → needs arcs a (child arcs a j) ≡ true
child_needed arcs a j low =
    let all : AllByRecursion (λ (arc : Arc). needs arcs a arc.1 ≡ true) (arcs_from a arcs) =
    each_kept (λ (arc : Arc). nat_eq arc.0 a) (λ arc. needs arcs arc.0 arc.1 ≡ true) (λ arc. needs arcs a arc.1 ≡ true) arcs
    (λ arc is h. subst (λ (n : ℕ). needs arcs n arc.1 ≡ true) (eqb-true arc.0 a is) h)
    (each_arc (λ x y. needs arcs x y ≡ true) arcs (λ x y h. h)) in
    All-from_recursion (λ (arc : Arc). needs arcs a arc.1 ≡ true) (arcs_from a arcs) all j none low

pub child_of : (arcs : List Arc) (a b : ℕ) → needs arcs a b ≡ true → (j : ℕ) × (j < children arcs a) × (child arcs a j ≡ b)
child_of arcs a b need =
    let ends : List ℕ = map (λ (arc : Arc). arc.1) (arcs_from a arcs) in
    let at = at_in b ends (needed_end a b arcs need) in
    let long : length ends ≡ children arcs a = length-map (arcs_from a arcs) (λ (arc : Arc). arc.1) in
    let less : at.0 < length ends = at.1 in
    let low : at.0 < children arcs a = omega arith in
    (at.0, low, sym (get_or-map (λ (arc : Arc). arc.1) (arcs_from a arcs) at.0 none 0 low) ∙ at.2)

-- what is needed below the one that is tried stands before it
pub child_before : (arcs : List Arc) (a b t : ℕ) → IsRising (arcs_from a arcs) → t < children arcs a → needs arcs a b ≡ true → b < child arcs a t → (j : ℕ) × (j < t) × (child arcs a j ≡ b)
child_before arcs a b t rising low need less =
    let at = child_of arcs a b need in
    let j : ℕ = at.0 in
    let small : j < children arcs a = at.1 in
    let is : child arcs a j ≡ b = at.2 in
    elim (cases_lt j t) [
      | inl before ↦ (j, before, is)
      | inr behind ↦
          let up : child arcs a t ≤ child arcs a j = rising t j none behind small in
          absurd (omega arith)
    ]
