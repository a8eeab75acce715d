-- A walk and its places.
use Rattle.std.proofs.Common.{◌≡◌, ◌≢◌, ℕ, zero, suc, ◌+◌, ◌*◌, ◌-◌, ◌<◌, ◌≤◌, Bool, true, false, List, [], ◌∷◌, ◌++◌, length, map, get_or, set, replicate, Some, None, inl, inr, refl, sym, ap, subst, ◌∙◌, arith}
use Rattle.std.specs.Prelude.{◌&&◌, nat_eq, not, reverse, slice_get, option_map}
use Rattle.std.specs.List.{All, list_any, range_with_len}
use Rattle.std.proofs.lemmas.Bool.{false≢true, cases_Bool, cases_lt, cases_eq, eqb-true, eq-eqb, ne_eqb}
use Rattle.std.proofs.lemmas.List.{append_assoc, length_push, length-set, length-replicate, length-reverse, map-append, take_at, get_or_push, reverse-append, get_or-set_same, get_or-set_other}
use Rattle.std.proofs.lemmas.List.Elements.{recursion_from_All, All-nil, All-push, All-take}
use Rattle.graph_walks.specs.Arcs.{Arc, needs, arcs_from, is_in, AreWithin}
use Rattle.graph_walks.specs.Counting.{one_if}
use Rattle.graph_walks.specs.Leading.{IsClosed, Leads}
use Rattle.graph_walks.specs.Reaching.{reaches, on_cycle}
use Rattle.graph_walks.specs.Starts.{IsRising}
use Rattle.graph_walks.specs.Telling.{off, first_on_cycle, next_on_path, rest_of_path, told_cycle, Visits}
use Rattle.graph_walks.proofs.Reached.{leads_self, leads_step, reaches_leads}
use Rattle.graph_walks.proofs.Tests.{either, both, and_true, or_left, or_right, from_range, holds_of_arc, found_in}
use Rattle.graph_walks.proofs.Children.{none, child, children, child_needed, child_of}
use Rattle.graph_walks.proofs.Levels.{places_of, IsLevel, IsStep, AreLinked, linked_under, linked_out}
use Rattle.graph_walks.proofs.Offs.{off_needs, next_is}
use Rattle.graph_walks.proofs.Downward.{told_down}

-- ---- the walk

abbrev pub unseen : List Bool → ℕ
unseen [] = 0
unseen (seen ∷ visited) = one_if (not seen) + unseen visited

abbrev pub test_of : List Bool → ℕ → Bool
test_of visited x = get_or visited x false

abbrev pub AreWalked : List Arc → ℕ → (ℕ → Bool) → List (ℕ × ℕ) → Type 0
AreWalked arcs start visited [] = ⊥
AreWalked arcs start visited (step ∷ steps) = IsLevel arcs start visited step.0 step.1 (step.0 ∷ places_of steps) × AreLinked arcs start visited step.0 steps

pub record IsWalk (n : ℕ) (arcs : List Arc) (start : ℕ) (visited : List Bool) (path : List (ℕ × ℕ)) : Type 0 where
  pub walked : AreWalked arcs start (test_of visited) (reverse path)
  pub count_is : length visited ≡ n
  pub few : length path + unseen visited ≤ n
  pub low : All (λ step. step.0 < n) path

-- what is left to be tried
abbrev pub left_of : List Arc → List (ℕ × ℕ) → ℕ
left_of arcs [] = 0
left_of arcs (step ∷ steps) = (children arcs step.0 - step.1) + 1 + left_of arcs steps

abbrev pub walk_work : List Arc → List Bool → List (ℕ × ℕ) → ℕ
walk_work arcs visited path = unseen visited * (length arcs + 2) + left_of arcs path

pub left_push : (arcs : List Arc) (path : List (ℕ × ℕ)) (step : ℕ × ℕ) → left_of arcs (path ++ step ∷ []) ≡ left_of arcs path + ((children arcs step.0 - step.1) + 1)
left_push arcs [] step = omega arith
left_push arcs (s ∷ path) step =
    let rest : left_of arcs (path ++ step ∷ []) ≡ left_of arcs path + ((children arcs step.0 - step.1) + 1) = left_push arcs path step in
    omega arith

pub last_first : (path : List (ℕ × ℕ)) (step : ℕ × ℕ) → reverse (path ++ step ∷ []) ≡ step ∷ reverse path
last_first path step = reverse-append path (step ∷ [])

-- ---- what is unseen

unseen_all : (n : ℕ) → unseen (replicate n false) ≡ n
unseen_all zero = refl
unseen_all (suc n) = let rest : unseen (replicate n false) ≡ n = unseen_all n in omega arith

none_seen : (n x : ℕ) → test_of (replicate n false) x ≡ false
none_seen zero x = refl
none_seen (suc n) zero = refl
none_seen (suc n) (suc x) = none_seen n x

unseen_set : (visited : List Bool) (x : ℕ) → x < length visited → test_of visited x ≡ false → unseen (set visited x true) + 1 ≡ unseen visited
unseen_set [] x low out = absurd (omega arith)
unseen_set (v ∷ visited) zero low out =
    let one : one_if (not v) ≡ 1 = ap (λ (b : Bool). one_if (not b)) out in
    omega arith
unseen_set (v ∷ visited) (suc x) low out =
    let rest : unseen (set visited x true) + 1 ≡ unseen visited = unseen_set visited x (omega arith) out in
    omega arith

set_under : (visited : List Bool) (b x : ℕ) → b < length visited → test_of visited x ≡ true → test_of (set visited b true) x ≡ true
set_under visited b x low seen =
    elim (cases_eq x b) [
      | inl same ↦ subst (λ (k : ℕ). test_of (set visited b true) k ≡ true) (sym same) (get_or-set_same visited b true false low)
      | inr other ↦ get_or-set_other visited b x true false other ∙ seen
    ]

set_other : (visited : List Bool) (b x : ℕ) → x ≢ b → test_of (set visited b true) x ≡ true → test_of visited x ≡ true
set_other visited b x other seen = sym (get_or-set_other visited b x true false other) ∙ seen

not_first : (x y : ℕ) (xs : List ℕ) → is_in x (y ∷ xs) ≡ false → x ≢ y
not_first x y xs out same = false≢true (sym out ∙ or_left (nat_eq x y) (is_in x xs) (eq-eqb x y same))

not_later : (x y : ℕ) (xs : List ℕ) → is_in x (y ∷ xs) ≡ false → is_in x xs ≡ false
not_later x y xs out = elim (cases_Bool (is_in x xs)) [ inl in' ↦ absurd (false≢true (sym out ∙ or_right (nat_eq x y) (is_in x xs) in')) | inr none' ↦ none' ]

not_either : (x y : ℕ) (xs : List ℕ) → x ≢ y → is_in x xs ≡ false → is_in x (y ∷ xs) ≡ false
not_either x y xs other out =
    elim (cases_Bool (is_in x (y ∷ xs))) [
      | inl in' ↦ elim (either (nat_eq x y) (is_in x xs) in') [ inl is ↦ absurd (other (eqb-true x y is)) | inr more ↦ absurd (false≢true (sym out ∙ more)) ]
      | inr none' ↦ none'
    ]

-- ---- a walk begins

pub start_low : (n : ℕ) (arcs : List Arc) (start : ℕ) → first_on_cycle n arcs ≡ Some start → start < n
unfolding first_on_cycle
start_low n arcs start is =
    from_range n start (found_in (λ place. list_any (λ arc. nat_eq arc.0 place && on_cycle arcs arc) arcs) (range_with_len 0 n) start is).0

pub walk_starts : (n : ℕ) (arcs : List Arc) (start : ℕ) (visited : List Bool) → start < n → visited ≡ replicate n false → IsWalk n arcs start (set visited start true) ((start, 0) ∷ [])
walk_starts n arcs start visited low new = record {
  walked = (
    record {
      begun = begun;
      on_path = λ x in'. elim (either (nat_eq x start) false in') [ inl is ↦ subst (λ (k : ℕ). test_of (set visited start true) k ≡ true) (sym (eqb-true x start is)) begun | inr no' ↦ absurd (false≢true no') ];
      few = omega arith;
      seen = λ j less. absurd (omega arith);
      not_back = λ j less. absurd (omega arith);
      closed = λ x w seen out need. absurd (only x seen out);
      closed_back = λ x w seen out need. absurd (only x seen out);
    },
    refl,
  );
  count_is = length-set visited start true ∙ long;
  few =
      let all : unseen visited ≡ n = ap unseen new ∙ unseen_all n in
      let less : unseen (set visited start true) + 1 ≡ unseen visited = unseen_set visited start (let l = long in omega arith) (ap (λ (l : List Bool). test_of l start) new ∙ none_seen n start) in
      omega arith;
  low = All-push (λ step. step.0 < n) [] (start, 0) (All-nil (λ step. step.0 < n)) low;
}
  where
    long : length visited ≡ n
    long = ap length new ∙ length-replicate n false

    begun : test_of (set visited start true) start ≡ true
    begun = get_or-set_same visited start true false (let l = long in omega arith)

    only : (x : ℕ) → test_of (set visited start true) x ≡ true → is_in x (start ∷ []) ≡ false → ⊥
    only x seen out =
        let was : test_of visited x ≡ true = set_other visited start x (not_first x start [] out) seen in
        false≢true (sym (none_seen n x) ∙ sym (ap (λ (l : List Bool). test_of l x) new) ∙ was)

-- ---- one step

-- the last step of a walk, apart
pub record IsLastStep (n : ℕ) (arcs : List Arc) (start : ℕ) (visited : List Bool) (rest : List (ℕ × ℕ)) (place tried : ℕ) : Type 0 where
  pub level : IsLevel arcs start (test_of visited) place tried (place ∷ places_of (reverse rest))
  pub linked : AreLinked arcs start (test_of visited) place (reverse rest)
  pub count_is : length visited ≡ n
  pub few : length rest + 1 + unseen visited ≤ n
  pub low : All (λ step. step.0 < n) rest
  pub place_low : place < n

pub last_step : (n : ℕ) (arcs : List Arc) (start : ℕ) (visited : List Bool) (path rest : List (ℕ × ℕ)) (place tried : ℕ) → path ≡ rest ++ (place, tried) ∷ [] → IsWalk n arcs start visited path → IsLastStep n arcs start visited rest place tried
last_step n arcs start visited path rest place tried apart walk =
    let turned : reverse path ≡ (place, tried) ∷ reverse rest = ap reverse apart ∙ last_first rest (place, tried) in
    let walked : AreWalked arcs start (test_of visited) ((place, tried) ∷ reverse rest) = subst (AreWalked arcs start (test_of visited)) turned walk.walked in
    let long : length path ≡ length rest + 1 = ap length apart ∙ length_push rest (place, tried) in
    let low : All (λ step. step.0 < n) (rest ++ (place, tried) ∷ []) = subst (All (λ step. step.0 < n)) apart walk.low in
    let wide : length (rest ++ (place, tried) ∷ []) ≡ length rest + 1 = length_push rest (place, tried) in
    record {
      level = walked.0;
      linked = walked.1;
      count_is = walk.count_is;
      few = omega (arith, walk.few);
      low = subst (All (λ step. step.0 < n)) (take_at rest ((place, tried) ∷ []) (length rest) refl) (All-take (λ step. step.0 < n) (length rest) (rest ++ (place, tried) ∷ []) low);
      place_low = subst (λ (s : ℕ × ℕ). s.0 < n) (get_or_push rest (place, tried) (0, 0) (length rest) refl) (low (length rest) (0, 0) (omega arith));
    }

-- on a cycle there is an arc that is led back from
any_arc : (p : Arc → Bool) (arcs : List Arc) → list_any p arcs ≡ true → (a : Arc) × (p a ≡ true) × (needs arcs a.0 a.1 ≡ true)
any_arc p [] h = absurd (false≢true h)
any_arc p (arc ∷ arcs) h =
    elim (either (p arc) (list_any p arcs) h) [
      | inl is ↦ (arc, is, or_left (nat_eq arc.0 arc.0 && nat_eq arc.1 arc.1) (needs arcs arc.0 arc.1) (and_true (nat_eq arc.0 arc.0) (nat_eq arc.1 arc.1) (eq-eqb arc.0 arc.0 refl) (eq-eqb arc.1 arc.1 refl)))
      | inr more ↦ let found = any_arc p arcs more in (found.0, found.1, or_right (nat_eq arc.0 found.0.0 && nat_eq arc.1 found.0.1) (needs arcs found.0.0 found.0.1) found.2)
    ]

-- the start isn't left before it is led back to
start_stays : (n : ℕ) (arcs : List Arc) (start : ℕ) (visited : ℕ → Bool) (tried : ℕ) → first_on_cycle n arcs ≡ Some start → children arcs start ≤ tried → IsLevel arcs start visited start tried (start ∷ []) → ⊥
unfolding first_on_cycle on_cycle
start_stays n arcs start visited tried is done level =
    let some : list_any (λ arc. nat_eq arc.0 start && on_cycle arcs arc) arcs ≡ true = (found_in (λ place. list_any (λ arc. nat_eq arc.0 place && on_cycle arcs arc) arcs) (range_with_len 0 n) start is).1 in
    let found = any_arc (λ arc. nat_eq arc.0 start && on_cycle arcs arc) arcs some in
    let parts = both (nat_eq found.0.0 start) (on_cycle arcs found.0) found.1 in
    let begin : found.0.0 ≡ start = eqb-true found.0.0 start parts.0 in
    let b : ℕ = found.0.1 in
    let need : needs arcs start b ≡ true = subst (λ (k : ℕ). needs arcs k b ≡ true) begin found.2 in
    let back : reaches arcs b start ≡ true = subst (λ (k : ℕ). reaches arcs b k ≡ true) begin parts.1 in
    let at = child_of arcs start b need in
    let less : at.0 < children arcs start = at.1 in
    let seen : visited b ≡ true = subst (λ (k : ℕ). visited k ≡ true) at.2 (level.seen at.0 (omega arith)) in
    let other : b ≢ start = λ same. level.not_back at.0 (omega arith) (at.2 ∙ same) in
    let inside : (x : ℕ) → visited x ≡ true → x ≢ start → (visited x && not (nat_eq x start)) ≡ true = λ x v o. and_true (visited x) (not (nat_eq x start)) v (ap not (ne_eqb x start o)) in
    let closed : IsClosed arcs (λ x. visited x && not (nat_eq x start)) = λ x w need' h.
    let two = both (visited x) (not (nat_eq x start)) h in
    let away : x ≢ start = λ same. false≢true (sym (ap not (eq-eqb x start same)) ∙ two.1) in
    let out : is_in x (start ∷ []) ≡ false = not_either x start [] away refl in
    inside w (level.closed x w two.0 out need') (level.closed_back x w two.0 out need') in
    let end : (visited start && not (nat_eq start start)) ≡ true = (reaches_leads arcs b start back).into (λ x. visited x && not (nat_eq x start)) closed (inside b seen other) in
    false≢true (sym (ap not (eq-eqb start start refl)) ∙ (both (visited start) (not (nat_eq start start)) end).1)

-- nothing is left to be tried: the walk goes back
pub walk_back' : (n : ℕ) (arcs : List Arc) (start : ℕ) (visited : List Bool) (rest : List (ℕ × ℕ)) (place tried : ℕ) → first_on_cycle n arcs ≡ Some start → children arcs place ≤ tried → IsLastStep n arcs start visited rest place tried → IsWalk n arcs start visited rest
walk_back' n arcs start visited rest place tried is done last = record {
  walked = by (reverse rest) last.level last.linked;
  count_is = last.count_is;
  few = omega (arith, last.few);
  low = last.low;
}
  where
    V : ℕ → Bool
    V = test_of visited

    by : (steps : List (ℕ × ℕ)) → IsLevel arcs start (test_of visited) place tried (place ∷ places_of steps) → AreLinked arcs start (test_of visited) place steps → AreWalked arcs start (test_of visited) steps
    by [] level linked =
        let at : place ≡ start = linked in
        start_stays n arcs start (test_of visited) tried is (subst (λ (k : ℕ). children arcs k ≤ tried) at done) (subst (λ (k : ℕ). IsLevel arcs start (test_of visited) k tried (k ∷ [])) at level)
    by (step ∷ steps) level linked =
        let before : ℕ → Bool = linked.0 in
        let t : ℕ = linked.1 in
        let next : step.1 ≡ t + 1 = linked.2 in
        let s : IsStep arcs (test_of visited) before place step.0 t = linked.3 in
        let lower : IsLevel arcs start before step.0 t (step.0 ∷ places_of steps) = linked.4 in
        let here : test_of visited place ≡ true = level.on_path place (or_left (nat_eq place place) (is_in place (places_of (step ∷ steps))) (eq-eqb place place refl)) in
        let away : place ≢ start = λ same. false≢true (sym s.fresh ∙ subst (λ (k : ℕ). before k ≡ true) (sym same) lower.begun) in
        let room : t < children arcs step.0 = s.low in (
          record {
            begun = level.begun;
            on_path = λ x in'. level.on_path x (or_right (nat_eq x place) (is_in x (places_of (step ∷ steps))) in');
            few = omega arith;
            seen = λ j less. elim (cases_lt j t) [
              | inl low ↦ s.under (child arcs step.0 j) (lower.seen j low)
              | inr high ↦ let same : j ≡ t = omega arith in subst (λ (k : ℕ). test_of visited k ≡ true) (sym (ap (child arcs step.0) same ∙ s.is)) here
            ];
            not_back = λ j less. elim (cases_lt j t) [
              | inl low ↦ lower.not_back j low
              | inr high ↦ let same : j ≡ t = omega arith in λ back. away (sym (ap (child arcs step.0) same ∙ s.is) ∙ back)
            ];
            closed = λ x w seen out need. elim (cases_eq x place) [
              | inl same ↦
                  let at = child_of arcs place w (subst (λ (k : ℕ). needs arcs k w ≡ true) same need) in
                  let less : at.0 < children arcs place = at.1 in
                  subst (λ (k : ℕ). test_of visited k ≡ true) at.2 (level.seen at.0 (omega arith))
              | inr other ↦ level.closed x w seen (not_either x place (places_of (step ∷ steps)) other out) need
            ];
            closed_back = λ x w seen out need. elim (cases_eq x place) [
              | inl same ↦
                  let at = child_of arcs place w (subst (λ (k : ℕ). needs arcs k w ≡ true) same need) in
                  let less : at.0 < children arcs place = at.1 in
                  λ back. level.not_back at.0 (omega arith) (at.2 ∙ back)
              | inr other ↦ level.closed_back x w seen (not_either x place (places_of (step ∷ steps)) other out) need
            ];
          },
          linked_under arcs start before (test_of visited) step.0 steps s.under linked.5,
        )

-- one more was tried
level_more : (arcs : List Arc) (start : ℕ) (visited : ℕ → Bool) (place tried : ℕ) (on : List ℕ) → IsLevel arcs start visited place tried on → tried < children arcs place → visited (child arcs place tried) ≡ true → child arcs place tried ≢ start → IsLevel arcs start visited place (tried + 1) on
level_more arcs start visited place tried on level room seen away = record {
  begun = level.begun;
  on_path = level.on_path;
  few = omega arith;
  seen = λ j less. elim (cases_lt j tried) [
    | inl low ↦ level.seen j low
    | inr high ↦ let same : j ≡ tried = omega arith in subst (λ (k : ℕ). visited (child arcs place k) ≡ true) (sym same) seen
  ];
  not_back = λ j less. elim (cases_lt j tried) [
    | inl low ↦ level.not_back j low
    | inr high ↦ let same : j ≡ tried = omega arith in subst (λ (k : ℕ). child arcs place k ≢ start) (sym same) away
  ];
  closed = level.closed;
  closed_back = level.closed_back;
}

pub walk_on : (n : ℕ) (arcs : List Arc) (start : ℕ) (visited : List Bool) (rest : List (ℕ × ℕ)) (place tried : ℕ) (visited' : List Bool) (path' : List (ℕ × ℕ)) → AreWithin n arcs → IsLastStep n arcs start visited rest place tried → tried < children arcs place → child arcs place tried ≢ start → Visits (child arcs place tried) visited (rest ++ (place, tried + 1) ∷ []) visited' path' → IsWalk n arcs start visited' path'
walk_on n arcs start visited rest place tried visited' path' within last room away visits =
    elim visits [
      | inl old ↦
          subst (λ (l : List Bool). IsWalk n arcs start l path') (sym old.1) (subst (λ (l : List (ℕ × ℕ)). IsWalk n arcs start visited l) (sym old.2) (seen_on old.0))
      | inr new ↦
          subst (λ (l : List Bool). IsWalk n arcs start l path') (sym new.1) (subst (λ (l : List (ℕ × ℕ)). IsWalk n arcs start (set visited b true) l) (sym new.2) (new_on new.0))
    ]
  where
    b : ℕ
    b = child arcs place tried

    path : List (ℕ × ℕ)
    path = rest ++ (place, tried + 1) ∷ []

    b_low : b < n
    b_low = (holds_of_arc (λ x y. (x < n) × (y < n)) arcs (recursion_from_All (λ arc. (arc.0 < n) × (arc.1 < n)) arcs within) place b (child_needed arcs place tried room)).1

    long : length path ≡ length rest + 1
    long = length_push rest (place, tried + 1)

    lows : All (λ step. step.0 < n) path
    lows = All-push (λ step. step.0 < n) rest (place, tried + 1) last.low last.place_low

    seen_on : test_of visited b ≡ true → IsWalk n arcs start visited path
    seen_on seen = record {
      walked = subst (AreWalked arcs start (test_of visited)) (sym (last_first rest (place, tried + 1))) (level_more arcs start (test_of visited) place tried (place ∷ places_of (reverse rest)) last.level room seen away, last.linked);
      count_is = last.count_is;
      few = let l = long in omega (arith, last.few);
      low = lows;
    }

    new_on : test_of visited b ≡ false → IsWalk n arcs start (set visited b true) (path ++ (b, 0) ∷ [])
    new_on fresh' =
        let wide : b < length visited = let c = last.count_is in let l = b_low in omega arith in
        let under : (x : ℕ) → test_of visited x ≡ true → test_of (set visited b true) x ≡ true = λ x seen. set_under visited b x wide seen in
        let turned : reverse (path ++ (b, 0) ∷ []) ≡ (b, 0) ∷ (place, tried + 1) ∷ reverse rest = last_first path (b, 0) ∙ ap (λ (l : List (ℕ × ℕ)). (b, 0) ∷ l) (last_first rest (place, tried + 1)) in
        let on : List ℕ = place ∷ places_of (reverse rest) in
        let now : test_of (set visited b true) b ≡ true = get_or-set_same visited b true false wide in
        record {
          walked = subst (AreWalked arcs start (test_of (set visited b true))) (sym turned) (
            record {
              begun = under start last.level.begun;
              on_path = λ x in'. elim (either (nat_eq x b) (is_in x on) in') [
                | inl is ↦ subst (λ (k : ℕ). test_of (set visited b true) k ≡ true) (sym (eqb-true x b is)) now
                | inr more ↦ under x (last.level.on_path x more)
              ];
              few = omega arith;
              seen = λ j less. absurd (omega arith);
              not_back = λ j less. absurd (omega arith);
              closed = λ x w seen out need. under w (last.level.closed x w (set_other visited b x (not_first x b on out) seen) (not_later x b on out) need);
              closed_back = λ x w seen out need. last.level.closed_back x w (set_other visited b x (not_first x b on out) seen) (not_later x b on out) need;
            },
            (test_of visited, tried, refl, record { under = under; fresh = fresh'; low = room; is = refl }, last.level, last.linked),
          );
          count_is = length-set visited b true ∙ last.count_is;
          few =
              let less : unseen (set visited b true) + 1 ≡ unseen visited = unseen_set visited b wide fresh' in
              let more : length (path ++ (b, 0) ∷ []) ≡ length path + 1 = length_push path (b, 0) in
              let l = long in
              omega (arith, last.few);
          low = All-push (λ step. step.0 < n) path (b, 0) lows b_low;
        }

-- ---- the walk is back

turned_back : (steps : List (ℕ × ℕ)) → reverse (places_of (reverse steps)) ≡ places_of steps
turned_back [] = refl
turned_back (step ∷ steps) =
    let apart : reverse (step ∷ steps) ≡ reverse steps ++ step ∷ [] = reverse-append (step ∷ []) steps in
    let placed : places_of (reverse steps ++ step ∷ []) ≡ places_of (reverse steps) ++ step.0 ∷ [] = map-append (λ (s : ℕ × ℕ). s.0) (reverse steps) (step ∷ []) in
    ap (λ (l : List (ℕ × ℕ)). reverse (places_of l)) apart ∙ ap reverse placed ∙ reverse-append (places_of (reverse steps)) (step.0 ∷ []) ∙ ap (λ (l : List ℕ). step.0 ∷ l) (turned_back steps)

pub walk_told : (n : ℕ) (arcs : List Arc) (start : ℕ) (visited : List Bool) (rest : List (ℕ × ℕ)) (place tried : ℕ) → AreWithin n arcs → ((p : ℕ) → IsRising (arcs_from p arcs)) → first_on_cycle n arcs ≡ Some start → IsLastStep n arcs start visited rest place tried → tried < children arcs place → child arcs place tried ≡ start → map (λ (step : ℕ × ℕ). step.0) (rest ++ (place, tried + 1) ∷ []) ++ start ∷ [] ≡ told_cycle n arcs
unfolding told_cycle rest_of_path
walk_told n arcs start visited rest place tried within rising is last room back =
    let steps : List (ℕ × ℕ) = reverse rest in
    let rounds : ℕ = n - (length rest + 1) in
    let leads : Leads (off (place ∷ places_of steps) arcs) (child arcs place tried) start = subst (λ (k : ℕ). Leads (off (place ∷ places_of steps) arcs) k start) (sym back) (leads_self (off (place ∷ places_of steps) arcs) start) in
    let next : next_on_path n arcs start (place ∷ places_of steps) place ≡ Some start = next_is n arcs start (test_of visited) place tried steps within (rising place) last.level room leads ∙ ap Some back in
    let same : nat_eq start start ≡ true = eq-eqb start start refl in
    let told : rest_of_path (suc rounds) n arcs start (place ∷ places_of steps) place ≡ start ∷ [] = rw (next, same) refl in
    let need : needs (off (places_of steps) arcs) place start ≡ true = off_needs (places_of steps) arcs place start (linked_out arcs start (test_of visited) place steps last.linked) (subst (λ (k : ℕ). needs arcs place k ≡ true) back (child_needed arcs place tried room)) in
    let down : start ∷ rest_of_path (suc rounds + length steps) n arcs start (start ∷ []) start ≡ reverse (places_of steps) ++ place ∷ start ∷ [] = told_down n arcs start within rising (test_of visited) place steps (suc rounds) (start ∷ []) last.linked told (leads_step (off (places_of steps) arcs) place start need) in
    let long : length steps ≡ length rest = length-reverse rest in
    let fuel : suc rounds + length steps ≡ n = omega (arith, last.few) in
    let whole : start ∷ rest_of_path n n arcs start (start ∷ []) start ≡ reverse (places_of steps) ++ place ∷ start ∷ [] = subst (λ (k : ℕ). start ∷ rest_of_path k n arcs start (start ∷ []) start ≡ reverse (places_of steps) ++ place ∷ start ∷ []) fuel down in
    let front : places_of (rest ++ (place, tried + 1) ∷ []) ++ start ∷ [] ≡ places_of rest ++ place ∷ start ∷ [] = ap (λ (l : List ℕ). l ++ start ∷ []) (map-append (λ (s : ℕ × ℕ). s.0) rest ((place, tried + 1) ∷ [])) ∙ append_assoc (places_of rest) (place ∷ []) (start ∷ []) in
    let given : start ∷ rest_of_path n n arcs start (start ∷ []) start ≡ told_cycle n arcs = rw is refl in
    front ∙ ap (λ (l : List ℕ). l ++ place ∷ start ∷ []) (sym (turned_back rest)) ∙ sym whole ∙ given

-- ---- it ends

kept_few : (a : ℕ) (arcs : List Arc) → children arcs a ≤ length arcs
kept_few a [] = omega arith
kept_few a (arc ∷ arcs) =
    let rest : children arcs a ≤ length arcs = kept_few a arcs in
    elim (cases_Bool (nat_eq arc.0 a)) [ inl is ↦ rw is (omega arith) | inr isnt ↦ rw isnt (omega arith) ]

pub work_back : (arcs : List Arc) (visited : List Bool) (path rest : List (ℕ × ℕ)) (place tried : ℕ) → path ≡ rest ++ (place, tried) ∷ [] → walk_work arcs visited rest < walk_work arcs visited path
work_back arcs visited path rest place tried apart =
    let all : left_of arcs path ≡ left_of arcs rest + ((children arcs place - tried) + 1) = ap (left_of arcs) apart ∙ left_push arcs rest (place, tried) in
    omega arith

pub work_on : (n : ℕ) (arcs : List Arc) (start : ℕ) (visited : List Bool) (path rest : List (ℕ × ℕ)) (place tried b : ℕ) (visited' : List Bool) (path' : List (ℕ × ℕ)) → path ≡ rest ++ (place, tried) ∷ [] → b < length visited → tried < children arcs place → Visits b visited (rest ++ (place, tried + 1) ∷ []) visited' path' → walk_work arcs visited' path' < walk_work arcs visited path
work_on n arcs start visited path rest place tried b visited' path' apart low room visits =
    let all : left_of arcs path ≡ left_of arcs rest + ((children arcs place - tried) + 1) = ap (left_of arcs) apart ∙ left_push arcs rest (place, tried) in
    let more : left_of arcs (rest ++ (place, tried + 1) ∷ []) ≡ left_of arcs rest + ((children arcs place - (tried + 1)) + 1) = left_push arcs rest (place, tried + 1) in
    elim visits [
      | inl old ↦
          subst (λ (l : List Bool). walk_work arcs l path' < walk_work arcs visited path) (sym old.1)
          (subst (λ (l : List (ℕ × ℕ)). walk_work arcs visited l < walk_work arcs visited path) (sym old.2) (omega arith))
      | inr new ↦
          let k : ℕ = length arcs + 2 in
          let u : ℕ = unseen (set visited b true) in
          let less : u + 1 ≡ unseen visited = unseen_set visited b low new.0 in
          let two : left_of arcs ((rest ++ (place, tried + 1) ∷ []) ++ (b, 0) ∷ []) ≡ left_of arcs (rest ++ (place, tried + 1) ∷ []) + ((children arcs b - 0) + 1) = left_push arcs (rest ++ (place, tried + 1) ∷ []) (b, 0) in
          let few : children arcs b ≤ length arcs = kept_few b arcs in
          let product : unseen visited * k ≡ u * k + k = subst (λ (m : ℕ). m * k ≡ u * k + k) less (omega arith) in
          subst (λ (l : List Bool). walk_work arcs l path' < walk_work arcs visited path) (sym new.1)
          (subst (λ (l : List (ℕ × ℕ)). walk_work arcs (set visited b true) l < walk_work arcs visited path) (sym new.2) (omega arith))
    ]

-- ---- what is tried next

some_at : (xs : List Arc) (t next : ℕ) → option_map (λ (arc : Arc). arc.1) (slice_get xs t) ≡ Some next → (t < length xs) × ((get_or xs t none).1 ≡ next)
some_at [] t next h = absurd cc
some_at (x ∷ xs) zero next h = (omega arith, cc)
some_at (x ∷ xs) (suc t) next h = let rest = some_at xs t next h in let low = rest.0 in (omega arith, rest.1)

pub needed_some : (arcs : List Arc) (place tried next : ℕ) → option_map (λ (arc : Arc). arc.1) (slice_get (arcs_from place arcs) tried) ≡ Some next → (tried < children arcs place) × (child arcs place tried ≡ next)
needed_some arcs place tried next h = some_at (arcs_from place arcs) tried next h

none_at : (xs : List Arc) (t : ℕ) → option_map (λ (arc : Arc). arc.1) (slice_get xs t) ≡ None → length xs ≤ t
none_at [] t h = omega arith
none_at (x ∷ xs) zero h = absurd cc
none_at (x ∷ xs) (suc t) h = let rest = none_at xs t h in omega arith

pub needed_none : (arcs : List Arc) (place tried : ℕ) → option_map (λ (arc : Arc). arc.1) (slice_get (arcs_from place arcs) tried) ≡ None → children arcs place ≤ tried
needed_none arcs place tried h = none_at (arcs_from place arcs) tried h

pub child_low : (n : ℕ) (arcs : List Arc) (place tried : ℕ) → AreWithin n arcs → tried < children arcs place → child arcs place tried < n
child_low n arcs place tried within room =
    (holds_of_arc (λ x y. (x < n) × (y < n)) arcs (recursion_from_All (λ arc. (arc.0 < n) × (arc.1 < n)) arcs within) place (child arcs place tried) (child_needed arcs place tried room)).1

pub no_end : (n : ℕ) (arcs : List Arc) (start : ℕ) (visited : List Bool) (path : List (ℕ × ℕ)) → IsWalk n arcs start visited path → path ≡ [] → ⊥
no_end n arcs start visited path walk empty = subst (λ (l : List (ℕ × ℕ)). AreWalked arcs start (test_of visited) (reverse l)) empty walk.walked

pub round_is : (front rest path : List ℕ) (start : ℕ) → path ≡ front ++ start ∷ [] → path ≡ start ∷ rest → get_or path 0 0 ≡ get_or path (length path - 1) 0
round_is front rest path start end begin =
    let long : length path ≡ length front + 1 = ap length end ∙ length_push front start in
    let at : length front ≡ length path - 1 = omega arith in
    let last : get_or (front ++ start ∷ []) (length path - 1) 0 ≡ start = get_or_push front start 0 (length path - 1) at in
    ap (λ (l : List ℕ). get_or l 0 0) begin ∙ sym last ∙ ap (λ (l : List ℕ). get_or l (length path - 1) 0) (sym end)

pub told_begins : (n : ℕ) (arcs : List Arc) (start : ℕ) → first_on_cycle n arcs ≡ Some start → told_cycle n arcs ≡ start ∷ rest_of_path n n arcs start (start ∷ []) start
unfolding told_cycle
told_begins n arcs start is = rw is refl
