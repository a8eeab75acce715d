-- What leads back off a path.
use Rattle.std.proofs.Common.{◌≡◌, ◌≢◌, ℕ, zero, suc, ◌+◌, ◌<◌, ◌≤◌, Bool, true, false, cond, List, [], ◌∷◌, Some, inl, inr, refl, sym, ap, subst, ◌∙◌, arith}
use Rattle.std.specs.Prelude.{◌&&◌, nat_eq, not}
use Rattle.std.specs.List.{filter, find, range_with_len}
use Rattle.std.proofs.lemmas.Bool.{false≢true, cases_Bool, cases_eq, eqb-true, eq-eqb, ne_eqb}
use Rattle.std.proofs.lemmas.List.Elements.{recursion_from_All}
use Rattle.graph_walks.specs.Arcs.{Arc, needs, arcs_from, is_in, AreWithin}
use Rattle.graph_walks.specs.Leading.{IsClosed, Leads}
use Rattle.graph_walks.specs.Reaching.{reaches}
use Rattle.graph_walks.specs.Starts.{IsRising}
use Rattle.graph_walks.specs.Telling.{off, next_on_path}
use Rattle.graph_walks.proofs.Reached.{reaches_leads, leads_reaches}
use Rattle.graph_walks.proofs.Tests.{either, both, and_true, or_left, or_right, holds_of_arc}
use Rattle.graph_walks.proofs.Children.{child, children, child_needed, child_before}
use Rattle.graph_walks.proofs.Levels.{places_of, IsLevel}

-- ---- coming back

pub off_needs : (path : List ℕ) (arcs : List Arc) (a b : ℕ) → is_in a path ≡ false → needs arcs a b ≡ true → needs (off path arcs) a b ≡ true
unfolding off
off_needs path [] a b out h = h
off_needs path (arc ∷ arcs) a b out h =
    elim (cases_Bool (is_in arc.0 path)) [
      | inl in' ↦
          let more : needs arcs a b ≡ true = elim (either (nat_eq arc.0 a && nat_eq arc.1 b) (needs arcs a b) h) [
            | inl here ↦ absurd (false≢true (sym out ∙ subst (λ (n : ℕ). is_in n path ≡ true) (eqb-true arc.0 a (both (nat_eq arc.0 a) (nat_eq arc.1 b) here).0) in'))
            | inr more ↦ more
          ] in
          rw in' (off_needs path arcs a b out more)
      | inr kept ↦
          elim (either (nat_eq arc.0 a && nat_eq arc.1 b) (needs arcs a b) h) [
            | inl here ↦ rw kept (or_left (nat_eq arc.0 a && nat_eq arc.1 b) (needs (filter (λ e. not (is_in e.0 path)) arcs) a b) here)
            | inr more ↦ rw kept (or_right (nat_eq arc.0 a && nat_eq arc.1 b) (needs (filter (λ e. not (is_in e.0 path)) arcs) a b) (off_needs path arcs a b out more))
          ]
    ]

-- an arc off the path doesn't begin on it, and is an arc
pub needs_off : (path : List ℕ) (arcs : List Arc) (a b : ℕ) → needs (off path arcs) a b ≡ true → (is_in a path ≡ false) × (needs arcs a b ≡ true)
unfolding off
needs_off path [] a b h = absurd (false≢true h)
needs_off path (arc ∷ arcs) a b h =
    elim (cases_Bool (is_in arc.0 path)) [
      | inl in' ↦
          let rest = needs_off path arcs a b (subst (λ (c : Bool). needs (cond (not c) (arc ∷ filter (λ e. not (is_in e.0 path)) arcs) (filter (λ e. not (is_in e.0 path)) arcs)) a b ≡ true) in' h) in
          (rest.0, or_right (nat_eq arc.0 a && nat_eq arc.1 b) (needs arcs a b) rest.1)
      | inr kept ↦
          let here : needs (arc ∷ filter (λ e. not (is_in e.0 path)) arcs) a b ≡ true = subst (λ (c : Bool). needs (cond (not c) (arc ∷ filter (λ e. not (is_in e.0 path)) arcs) (filter (λ e. not (is_in e.0 path)) arcs)) a b ≡ true) kept h in
          elim (either (nat_eq arc.0 a && nat_eq arc.1 b) (needs (filter (λ e. not (is_in e.0 path)) arcs) a b) here) [
            | inl is ↦ (subst (λ (n : ℕ). is_in n path ≡ false) (eqb-true arc.0 a (both (nat_eq arc.0 a) (nat_eq arc.1 b) is).0) kept, or_left (nat_eq arc.0 a && nat_eq arc.1 b) (needs arcs a b) is)
            | inr more ↦ let rest = needs_off path arcs a b more in (rest.0, or_right (nat_eq arc.0 a && nat_eq arc.1 b) (needs arcs a b) rest.1)
          ]
    ]

-- what was tried before doesn't lead back
pub tried_apart : (arcs : List Arc) (start : ℕ) (visited : ℕ → Bool) (place tried : ℕ) (steps : List (ℕ × ℕ)) → IsLevel arcs start visited place tried (place ∷ places_of steps) → (j : ℕ) → j < tried → reaches (off (place ∷ places_of steps) arcs) (child arcs place j) start ≡ false
tried_apart arcs start visited place tried steps level j low =
    elim (cases_Bool (reaches (off (place ∷ places_of steps) arcs) (child arcs place j) start)) [
      | inl back ↦
          let leads = reaches_leads (off (place ∷ places_of steps) arcs) (child arcs place j) start back in
          absurd (never (leads.into (λ x. visited x && not (nat_eq x start)) closed (inside (child arcs place j) (level.seen j low) (level.not_back j low))))
      | inr none' ↦ none'
    ]
  where
    inside : (x : ℕ) → visited x ≡ true → x ≢ start → (visited x && not (nat_eq x start)) ≡ true
    inside x v other = and_true (visited x) (not (nat_eq x start)) v (ap not (ne_eqb x start other))

    closed : IsClosed (off (place ∷ places_of steps) arcs) (λ x. visited x && not (nat_eq x start))
    closed x w need h =
        let v : visited x ≡ true = (both (visited x) (not (nat_eq x start)) h).0 in
        let parts = needs_off (place ∷ places_of steps) arcs x w need in
        inside w (level.closed x w v parts.0 parts.1) (level.closed_back x w v parts.0 parts.1)

    never : (visited start && not (nat_eq start start)) ≡ true → ⊥
    never h = false≢true (sym (ap not (eq-eqb start start refl)) ∙ (both (visited start) (not (nat_eq start start)) h).1)

pub find_first : (p : ℕ → Bool) (a n x : ℕ) → a ≤ x → x < a + n → p x ≡ true → ((y : ℕ) → y < x → p y ≡ false) → find p (range_with_len a n) ≡ Some x
find_first p a zero x low high is below = absurd (omega arith)
find_first p a (suc n) x low high is below =
    elim (cases_eq a x) [
      | inl same ↦ let here : p a ≡ true = subst (λ (k : ℕ). p k ≡ true) (sym same) is in rw here (ap Some same)
      | inr other ↦ let none' : p a ≡ false = below a (omega arith) in rw none' (find_first p (a + 1) n x (omega arith) (omega arith) is below)
    ]

-- the walk's next place is the next of the path
pub next_is : (n : ℕ) (arcs : List Arc) (start : ℕ) (visited : ℕ → Bool) (place tried : ℕ) (steps : List (ℕ × ℕ)) → AreWithin n arcs → IsRising (arcs_from place arcs) → IsLevel arcs start visited place tried (place ∷ places_of steps) → tried < children arcs place → Leads (off (place ∷ places_of steps) arcs) (child arcs place tried) start → next_on_path n arcs start (place ∷ places_of steps) place ≡ Some (child arcs place tried)
unfolding next_on_path
next_is n arcs start visited place tried steps within rising level low leads =
    let b : ℕ = child arcs place tried in
    let need : needs arcs place b ≡ true = child_needed arcs place tried low in
    let small : b < n = (holds_of_arc (λ x y. (x < n) × (y < n)) arcs (recursion_from_All (λ arc. (arc.0 < n) × (arc.1 < n)) arcs within) place b need).1 in
    find_first (λ x. needs arcs place x && reaches (off (place ∷ places_of steps) arcs) x start) 0 n b (omega arith) (omega arith)
    (and_true (needs arcs place b) (reaches (off (place ∷ places_of steps) arcs) b start) need (leads_reaches (off (place ∷ places_of steps) arcs) b start leads))
    below
  where
    below : (y : ℕ) → y < child arcs place tried → (needs arcs place y && reaches (off (place ∷ places_of steps) arcs) y start) ≡ false
    below y less =
        elim (cases_Bool (needs arcs place y)) [
          | inl need ↦
              let at = child_before arcs place y tried rising low need less in
              let apart : reaches (off (place ∷ places_of steps) arcs) (child arcs place at.0) start ≡ false = tried_apart arcs start visited place tried steps level at.0 at.1 in
              let none' : reaches (off (place ∷ places_of steps) arcs) y start ≡ false = subst (λ (k : ℕ). reaches (off (place ∷ places_of steps) arcs) k start ≡ false) at.2 apart in
              rw (need, none') refl
          | inr none' ↦ rw none' refl
        ]
