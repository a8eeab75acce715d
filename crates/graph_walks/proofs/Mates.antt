-- An arc lies on a cycle where both its ends have one mark.
use Rattle.std.proofs.Common.{◌≡◌, ℕ, ◌<◌, Bool, true, false, List, [], ◌∷◌, Some, None, get_or, inl, inr, refl, sym, ap, ◌∙◌, arith}
use Rattle.std.specs.Prelude.{◌&&◌, ◌||◌, nat_eq}
use Rattle.std.specs.List.{AllByRecursion, list_any, range_with_len}
use Rattle.std.proofs.lemmas.Bool.{cases_Bool}
use Rattle.std.proofs.lemmas.List.Elements.{recursion_from_All}
use Rattle.graph_walks.specs.Arcs.{Arc, needs, arcs_from, AreWithin}
use Rattle.graph_walks.specs.Reaching.{reaches, on_cycle}
use Rattle.graph_walks.specs.Telling.{first_on_cycle, told_cycle}
use Rattle.graph_walks.proofs.Offs.{find_first}
use Rattle.graph_walks.proofs.Reached.{leads_step, leads_reaches}
use Rattle.graph_walks.proofs.Tests.{each_arc, each_in, from_range, find_none, holds_of_arc}

-- places have one mark where each reaches the other
abbrev pub AreAlike : ℕ → List Arc → List ℕ → Type 0
AreAlike n arcs marks = (a b : ℕ) → a < n → b < n → nat_eq (get_or marks a 0) (get_or marks b 0) ≡ (reaches arcs a b && reaches arcs b a)

abbrev is_mate : List ℕ → Arc → Bool
is_mate marks arc = nat_eq (get_or marks arc.0 0) (get_or marks arc.1 0)

pub mate : (n : ℕ) (arcs : List Arc) (marks : List ℕ) → AreWithin n arcs → AreAlike n arcs marks → (a b : ℕ) → needs arcs a b ≡ true → on_cycle arcs (a, b) ≡ nat_eq (get_or marks a 0) (get_or marks b 0)
unfolding on_cycle
mate n arcs marks within alike a b need =
    let low = holds_of_arc (λ x y. (x < n) × (y < n)) arcs (recursion_from_All (λ arc. (arc.0 < n) × (arc.1 < n)) arcs within) a b need in
    let there : reaches arcs a b ≡ true = leads_reaches arcs a b (leads_step arcs a b need) in
    sym (alike a b low.0 low.1 ∙ ap (λ (c : Bool). c && reaches arcs b a) there)

mates : (p : ℕ) (all : List Arc) (marks : List ℕ) (arcs : List Arc) → AllByRecursion (λ arc. on_cycle all (arc.0, arc.1) ≡ is_mate marks arc) arcs → list_any (λ arc. nat_eq arc.0 p && on_cycle all arc) arcs ≡ list_any (is_mate marks) (arcs_from p arcs)
mates p all marks [] each = refl
mates p all marks (arc ∷ arcs) each =
    let rest : list_any (λ arc. nat_eq arc.0 p && on_cycle all arc) arcs ≡ list_any (is_mate marks) (arcs_from p arcs) = mates p all marks arcs each.1 in
    elim (cases_Bool (nat_eq arc.0 p)) [
      | inl is ↦ rw is (ap (λ (b : Bool). b || list_any (λ arc. nat_eq arc.0 p && on_cycle all arc) arcs) each.0 ∙ ap (λ (b : Bool). is_mate marks arc || b) rest)
      | inr isnt ↦ rw isnt rest
    ]

pub mates_are : (n : ℕ) (arcs : List Arc) (marks : List ℕ) (p : ℕ) → AreWithin n arcs → AreAlike n arcs marks → list_any (λ arc. nat_eq arc.0 p && on_cycle arcs arc) arcs ≡ list_any (is_mate marks) (arcs_from p arcs)
mates_are n arcs marks p within alike =
    mates p arcs marks arcs (each_arc (λ a b. on_cycle arcs (a, b) ≡ nat_eq (get_or marks a 0) (get_or marks b 0)) arcs (mate n arcs marks within alike))

pub first_is : (n : ℕ) (arcs : List Arc) (p : ℕ) → p < n → list_any (λ arc. nat_eq arc.0 p && on_cycle arcs arc) arcs ≡ true → ((x : ℕ) → x < p → list_any (λ arc. nat_eq arc.0 x && on_cycle arcs arc) arcs ≡ false) → Some p ≡ first_on_cycle n arcs
unfolding first_on_cycle
first_is n arcs p low is below =
    sym (find_first (λ place. list_any (λ arc. nat_eq arc.0 place && on_cycle arcs arc) arcs) 0 n p (omega arith) (omega arith) is below)

pub first_none : (n : ℕ) (arcs : List Arc) → ((x : ℕ) → x < n → list_any (λ arc. nat_eq arc.0 x && on_cycle arcs arc) arcs ≡ false) → None ≡ first_on_cycle n arcs
unfolding first_on_cycle
first_none n arcs below =
    sym (find_none (λ place. list_any (λ arc. nat_eq arc.0 place && on_cycle arcs arc) arcs) (range_with_len 0 n)
    (each_in (λ x. list_any (λ arc. nat_eq arc.0 x && on_cycle arcs arc) arcs ≡ false) (range_with_len 0 n) (λ x in'. below x (from_range n x in'))))

pub told_none : (n : ℕ) (arcs : List Arc) → first_on_cycle n arcs ≡ None → [] ≡ told_cycle n arcs
unfolding told_cycle
told_none n arcs is = rw is refl
