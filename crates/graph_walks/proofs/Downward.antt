-- A walk that came back is what is told.
use Rattle.std.proofs.Common.{◌≡◌, ℕ, suc, ◌+◌, Bool, true, false, List, [], ◌∷◌, ◌++◌, length, Some, inl, inr, sym, ap, subst, ◌∙◌, arith}
use Rattle.std.specs.Prelude.{nat_eq, reverse}
use Rattle.std.proofs.lemmas.Bool.{false≢true, cases_Bool, ne_eqb}
use Rattle.std.proofs.lemmas.List.{append_assoc, reverse-append}
use Rattle.graph_walks.specs.Arcs.{Arc, needs, arcs_from, is_in, AreWithin}
use Rattle.graph_walks.specs.Leading.{Leads}
use Rattle.graph_walks.specs.Starts.{IsRising}
use Rattle.graph_walks.specs.Telling.{off, next_on_path, rest_of_path}
use Rattle.graph_walks.proofs.Reached.{leads_step, leads_on, leads_by}
use Rattle.graph_walks.proofs.Tests.{or_right}
use Rattle.graph_walks.proofs.Children.{child, child_needed}
use Rattle.graph_walks.proofs.Levels.{places_of, IsLevel, IsStep, AreLinked, linked_out}
use Rattle.graph_walks.proofs.Offs.{off_needs, needs_off, next_is}

-- from the last place down to the start
pub told_down : (n : ℕ) (arcs : List Arc) (start : ℕ) → AreWithin n arcs → ((p : ℕ) → IsRising (arcs_from p arcs)) → (visited : ℕ → Bool) (place : ℕ) (steps : List (ℕ × ℕ)) (rounds : ℕ) (tail : List ℕ) → AreLinked arcs start visited place steps → rest_of_path rounds n arcs start (place ∷ places_of steps) place ≡ tail → Leads (off (places_of steps) arcs) place start → start ∷ rest_of_path (rounds + length steps) n arcs start (start ∷ []) start ≡ reverse (places_of steps) ++ place ∷ tail
unfolding rest_of_path
told_down n arcs start within rising visited place [] rounds tail linked told leads =
    let at : place ≡ start = linked in
    let same : rest_of_path rounds n arcs start (start ∷ []) start ≡ tail = subst (λ (k : ℕ). rest_of_path rounds n arcs start (k ∷ []) k ≡ tail) at told in
    let zero' : rounds + 0 ≡ rounds = omega arith in
    subst (λ (k : ℕ). start ∷ rest_of_path k n arcs start (start ∷ []) start ≡ place ∷ tail) (sym zero')
    (subst (λ (k : ℕ). start ∷ rest_of_path rounds n arcs start (start ∷ []) start ≡ k ∷ tail) (sym at) (ap (λ (l : List ℕ). start ∷ l) same))
told_down n arcs start within rising visited place (step ∷ steps) rounds tail linked told leads =
    let from : ℕ = step.0 in
    let before : ℕ → Bool = linked.0 in
    let tried : ℕ = linked.1 in
    let is : IsStep arcs visited before place from tried = linked.3 in
    let level : IsLevel arcs start before from tried (from ∷ places_of steps) = linked.4 in
    let below : AreLinked arcs start before from steps = linked.5 in
    let leads_child : Leads (off (from ∷ places_of steps) arcs) (child arcs from tried) start = subst (λ (k : ℕ). Leads (off (from ∷ places_of steps) arcs) k start) (sym is.is) leads in
    let next : next_on_path n arcs start (from ∷ places_of steps) from ≡ Some place = next_is n arcs start before from tried steps within (rising from) level is.low leads_child ∙ ap Some is.is in
    let other : nat_eq place start ≡ false = ne_eqb place start (λ same. false≢true (sym is.fresh ∙ subst (λ (k : ℕ). before k ≡ true) (sym same) level.begun)) in
    let now : rest_of_path (suc rounds) n arcs start (from ∷ places_of steps) from ≡ place ∷ tail = rw (next, other) (ap (λ (l : List ℕ). place ∷ l) told) in
    let out : is_in from (places_of steps) ≡ false = linked_out arcs start before from steps below in
    let need : needs (off (places_of steps) arcs) from place ≡ true = off_needs (places_of steps) arcs from place out (subst (λ (k : ℕ). needs arcs from k ≡ true) is.is (child_needed arcs from tried is.low)) in
    let more : (x y : ℕ) → needs (off (from ∷ places_of steps) arcs) x y ≡ true → needs (off (places_of steps) arcs) x y ≡ true = λ x y h. let parts = needs_off (from ∷ places_of steps) arcs x y h in off_needs (places_of steps) arcs x y (tail_out x parts.0) parts.1 in
    let leads_on' : Leads (off (places_of steps) arcs) from start = leads_on (off (places_of steps) arcs) from place start (leads_step (off (places_of steps) arcs) from place need) (leads_by (off (from ∷ places_of steps) arcs) (off (places_of steps) arcs) more place start leads) in
    let down = told_down n arcs start within rising before from steps (suc rounds) (place ∷ tail) below now leads_on' in
    let fuel : suc rounds + length steps ≡ rounds + suc (length steps) = omega arith in
    let turned : reverse (places_of (step ∷ steps)) ++ place ∷ tail ≡ reverse (places_of steps) ++ from ∷ place ∷ tail =
    ap (λ (l : List ℕ). l ++ place ∷ tail) (reverse-append (from ∷ []) (places_of steps)) ∙ append_assoc (reverse (places_of steps)) (from ∷ []) (place ∷ tail) in
    subst (λ (k : ℕ). start ∷ rest_of_path k n arcs start (start ∷ []) start ≡ reverse (places_of (step ∷ steps)) ++ place ∷ tail) fuel (down ∙ sym turned)
  where
    tail_out : (x : ℕ) → is_in x (step.0 ∷ places_of steps) ≡ false → is_in x (places_of steps) ≡ false
    tail_out x h = elim (cases_Bool (is_in x (places_of steps))) [ inl in' ↦ absurd (false≢true (sym h ∙ or_right (nat_eq x step.0) (is_in x (places_of steps)) in')) | inr out ↦ out ]
