-- Levels of a walk.
use Rattle.std.proofs.Common.{◌≡◌, ◌≢◌, ℕ, ◌+◌, ◌<◌, ◌≤◌, Bool, true, false, List, [], ◌∷◌, map, inl, inr, refl, sym, ◌∙◌}
use Rattle.std.proofs.lemmas.Bool.{false≢true, cases_Bool}
use Rattle.graph_walks.specs.Arcs.{Arc, needs, is_in}
use Rattle.graph_walks.proofs.Children.{child, children}

-- ---- levels of a walk

abbrev pub places_of : List (ℕ × ℕ) → List ℕ
places_of steps = map (λ (step : ℕ × ℕ). step.0) steps

-- the places that were visited when a walk had come to a place and tried the first of what it needs: from those that
-- aren't on the path nothing leads out of them
pub record IsLevel (arcs : List Arc) (start : ℕ) (visited : ℕ → Bool) (place tried : ℕ) (on : List ℕ) : Type 0 where
  pub begun : visited start ≡ true
  pub on_path : (x : ℕ) → is_in x on ≡ true → visited x ≡ true
  pub few : tried ≤ children arcs place
  pub seen : (j : ℕ) → j < tried → visited (child arcs place j) ≡ true
  pub not_back : (j : ℕ) → j < tried → child arcs place j ≢ start
  pub closed : (x w : ℕ) → visited x ≡ true → is_in x on ≡ false → needs arcs x w ≡ true → visited w ≡ true
  pub closed_back : (x w : ℕ) → visited x ≡ true → is_in x on ≡ false → needs arcs x w ≡ true → w ≢ start

pub record IsStep (arcs : List Arc) (visited before : ℕ → Bool) (place from tried : ℕ) : Type 0 where
  pub under : (x : ℕ) → before x ≡ true → visited x ≡ true
  pub fresh : before place ≡ false
  pub low : tried < children arcs from
  pub is : child arcs from tried ≡ place

abbrev pub AreLinked : List Arc → ℕ → (ℕ → Bool) → ℕ → List (ℕ × ℕ) → Type 0
AreLinked arcs start visited place [] = place ≡ start
AreLinked arcs start visited place (step ∷ steps) =
    (before : ℕ → Bool) × (tried : ℕ) × (step.1 ≡ tried + 1) × IsStep arcs visited before place step.0 tried × IsLevel arcs start before step.0 tried (step.0 ∷ places_of steps) × AreLinked arcs start before step.0 steps

pub linked_under : (arcs : List Arc) (start : ℕ) (visited more : ℕ → Bool) (place : ℕ) (steps : List (ℕ × ℕ)) → ((x : ℕ) → visited x ≡ true → more x ≡ true) → AreLinked arcs start visited place steps → AreLinked arcs start more place steps
linked_under arcs start visited more place [] under linked = linked
linked_under arcs start visited more place (step ∷ steps) under linked =
    let is = linked.3 in
    (linked.0, linked.1, linked.2, record { under = λ x h. under x (is.under x h); fresh = is.fresh; low = is.low; is = is.is }, linked.4, linked.5)

pub linked_out : (arcs : List Arc) (start : ℕ) (visited : ℕ → Bool) (place : ℕ) (steps : List (ℕ × ℕ)) → AreLinked arcs start visited place steps → is_in place (places_of steps) ≡ false
linked_out arcs start visited place [] linked = refl
linked_out arcs start visited place (step ∷ steps) linked =
    elim (cases_Bool (is_in place (places_of (step ∷ steps)))) [
      | inl in' ↦ absurd (false≢true (sym linked.3.fresh ∙ linked.4.on_path place in'))
      | inr out ↦ out
    ]
