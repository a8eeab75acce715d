-- Arcs by where their ends stand among places.
use Rattle.std.proofs.Common.{◌≡◌, ℕ, ◌+◌, ◌-◌, ◌<◌, ◌≤◌, true, false, List, [], ◌∷◌, length, map, get_or, set, drop, inl, inr, refl, sym, ap, subst, ◌∙◌, arith}
use Rattle.std.specs.Prelude.{nat_eq, unwrap_or}
use Rattle.std.specs.List.{AllByRecursion, position_from}
use Rattle.std.proofs.lemmas.Bool.{cases_Bool, cases_eq, eq-eqb, ne_eqb}
use Rattle.std.proofs.lemmas.List.{drop_more, get_or-set_same, get_or-set_other}
use Rattle.std.proofs.lemmas.List.Elements.{recursion_from_All, All-map}
use Rattle.graph_walks.specs.Arcs.{Arc, AreWithin}
use Rattle.dep_sort.specs.FirstOrder.{stands_at, renumbered}

abbrev pub standing_from : List ℕ → ℕ → ℕ → ℕ
standing_from places at place = unwrap_or (position_from (nat_eq place) at (drop at places)) 0

pub ranks_more : (places ranks : List ℕ) (a : ℕ) → 0 < a → a ≤ length places → length ranks ≡ length places → get_or places (a - 1) 0 < length places → ((p : ℕ) → p < length places → get_or ranks p 0 ≡ standing_from places a p) → (p : ℕ) → p < length places → get_or (set ranks (get_or places (a - 1) 0) (a - 1)) p 0 ≡ standing_from places (a - 1) p
ranks_more places ranks a some le long low each p p_low =
    let k : ℕ = a - 1 in
    let x : ℕ = get_or places k 0 in
    let back : k + 1 ≡ a = omega arith in
    let cut : drop k places ≡ x ∷ drop (k + 1) places = drop_more places k 0 (omega arith) in
    subst (λ (l : List ℕ). get_or (set ranks x k) p 0 ≡ unwrap_or (position_from (nat_eq p) k l) 0) (sym cut)
    (elim (cases_eq p x) [
      | inl same ↦
          let is : nat_eq p x ≡ true = eq-eqb p x same in
          rw is (subst (λ (q : ℕ). get_or (set ranks x k) q 0 ≡ k) (sym same) (get_or-set_same ranks x k 0 (omega arith)))
      | inr other ↦
          let isnt : nat_eq p x ≡ false = ne_eqb p x other in
          rw isnt (get_or-set_other ranks x p k 0 other ∙ each p p_low ∙ ap (λ (n : ℕ). unwrap_or (position_from (nat_eq p) n (drop n places)) 0) (sym back))
    ])

pub standing_all : (places : List ℕ) (at p : ℕ) → at ≤ 0 → standing_from places at p ≡ stands_at places p
unfolding stands_at
standing_all places at p none = let zero' : at ≡ 0 = omega arith in ap (λ (n : ℕ). unwrap_or (position_from (nat_eq p) n (drop n places)) 0) zero'

position_low : (p i : ℕ) (xs : List ℕ) (bound : ℕ) → 0 < bound → i + length xs ≤ bound → unwrap_or (position_from (nat_eq p) i xs) 0 < bound
position_low p i [] bound some le = some
position_low p i (x ∷ xs) bound some le =
    elim (cases_Bool (nat_eq p x)) [ inl is ↦ rw is (omega arith) | inr isnt ↦ rw isnt (position_low p (i + 1) xs bound some (omega arith)) ]

pub stands_low : (places : List ℕ) (p : ℕ) → 0 < length places → stands_at places p < length places
unfolding stands_at
stands_low places p some = position_low p 0 places (length places) some (omega arith)

renumbered_each : (places ranks : List ℕ) (arcs : List Arc) → ((p : ℕ) → p < length places → get_or ranks p 0 ≡ stands_at places p) → AllByRecursion (λ arc. (arc.0 < length places) × (arc.1 < length places)) arcs → map (λ (arc : Arc). (get_or ranks arc.0 0, get_or ranks arc.1 0)) arcs ≡ renumbered places arcs
unfolding renumbered
renumbered_each places ranks [] each within = refl
renumbered_each places ranks (arc ∷ arcs) each within =
    let begin : get_or ranks arc.0 0 ≡ stands_at places arc.0 = each arc.0 within.0.0 in
    let end : get_or ranks arc.1 0 ≡ stands_at places arc.1 = each arc.1 within.0.1 in
    let rest : map (λ (e : Arc). (get_or ranks e.0 0, get_or ranks e.1 0)) arcs ≡ map (λ (e : Arc). (stands_at places e.0, stands_at places e.1)) arcs = renumbered_each places ranks arcs each within.1 in
    ap (λ (n : ℕ). (n, get_or ranks arc.1 0) ∷ map (λ (e : Arc). (get_or ranks e.0 0, get_or ranks e.1 0)) arcs) begin
    ∙ ap (λ (n : ℕ). (stands_at places arc.0, n) ∷ map (λ (e : Arc). (get_or ranks e.0 0, get_or ranks e.1 0)) arcs) end
    ∙ ap (λ (l : List Arc). (stands_at places arc.0, stands_at places arc.1) ∷ l) rest

pub renumbered_is : (places ranks : List ℕ) (arcs : List Arc) → ((p : ℕ) → p < length places → get_or ranks p 0 ≡ stands_at places p) → AreWithin (length places) arcs → map (λ (arc : Arc). (get_or ranks arc.0 0, get_or ranks arc.1 0)) arcs ≡ renumbered places arcs
renumbered_is places ranks arcs each within =
    renumbered_each places ranks arcs each (recursion_from_All (λ arc. (arc.0 < length places) × (arc.1 < length places)) arcs within)

pub renumbered_within : (places : List ℕ) (arcs : List Arc) → AreWithin (length places) arcs → AreWithin (length places) (renumbered places arcs)
unfolding renumbered
renumbered_within places arcs within =
    All-map (λ (arc : Arc). (arc.0 < length places) × (arc.1 < length places)) (λ (arc : Arc). (stands_at places arc.0, stands_at places arc.1)) arcs
    (λ k d low.
    let some : 0 < length places = let h = (within k d low).0 in omega arith in
    (stands_low places (get_or arcs k d).0 some, stands_low places (get_or arcs k d).1 some))
