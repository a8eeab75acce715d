-- A cycle that is told ends where it begins.
use Rattle.std.proofs.Common.{◌≡◌, ℕ, zero, suc, ◌+◌, ◌<◌, ◌≤◌, Bool, true, false, List, [], ◌∷◌, ◌++◌, length, Option, Some, None, inl, inr, refl, sym, ap, subst, ◌∙◌, arith}
use Rattle.std.specs.Prelude.{◌&&◌, ◌||◌, nat_eq, not}
use Rattle.std.specs.List.{AllByRecursion, IsDistinct, find, list_any, range_with_len}
use Rattle.std.proofs.lemmas.Bool.{false≢true, cases_Bool, eqb-true, eq-eqb}
use Rattle.std.proofs.lemmas.List.{length_push}
use Rattle.std.proofs.lemmas.List.Elements.{recursion_from_All}
use Rattle.std.proofs.lemmas.Map.Keys.{IsDistinct-cons}
use Rattle.std.proofs.lemmas.Map.Steps.{length-le_from_distinct_below}
use Rattle.graph_walks.specs.Arcs.{Arc, needs, is_in, AreWithin}
use Rattle.graph_walks.specs.Leading.{IsClosed}
use Rattle.graph_walks.specs.Reaching.{reaches, on_cycle}
use Rattle.graph_walks.specs.Telling.{off, first_on_cycle, next_on_path, rest_of_path, told_cycle, IsRound}
use Rattle.graph_walks.proofs.Reached.{leads_self, leads_step, leads_on, reaches_leads, leads_reaches}
use Rattle.graph_walks.proofs.Tests.{either, both, and_true, or_left, or_right, not_true, holds_in, holds_of_arc, in_range, found_in}
use Rattle.graph_walks.proofs.Offs.{off_needs, needs_off}
use Rattle.graph_walks.proofs.Walked.{round_is, told_begins}

find_some : (p : ℕ → Bool) (x : ℕ) (xs : List ℕ) → is_in x xs ≡ true → p x ≡ true → (y : ℕ) × (find p xs ≡ Some y)
find_some p x [] in' is = absurd (false≢true in')
find_some p x (z ∷ xs) in' is =
    elim (cases_Bool (p z)) [
      | inl here ↦ (z, rw here refl)
      | inr isnt ↦
          elim (either (nat_eq x z) (is_in x xs) in') [
            | inl same ↦ absurd (false≢true (sym isnt ∙ ap p (sym (eqb-true x z same)) ∙ is))
            | inr more ↦ let found = find_some p x xs more is in (found.0, rw isnt found.1)
          ]
    ]

-- one of the arcs that passes
any_arc : (p : ℕ → ℕ → Bool) (arcs : List Arc) → list_any (λ arc. p arc.0 arc.1) arcs ≡ true → (a b : ℕ) × (p a b ≡ true) × (needs arcs a b ≡ true)
any_arc p [] h = absurd (false≢true h)
any_arc p (arc ∷ arcs) h =
    elim (either (p arc.0 arc.1) (list_any (λ e. p e.0 e.1) arcs) h) [
      | inl is ↦ (arc.0, arc.1, is, or_left (nat_eq arc.0 arc.0 && nat_eq arc.1 arc.1) (needs arcs arc.0 arc.1) (and_true (nat_eq arc.0 arc.0) (nat_eq arc.1 arc.1) (eq-eqb arc.0 arc.0 refl) (eq-eqb arc.1 arc.1 refl)))
      | inr more ↦ let found = any_arc p arcs more in (found.0, found.1, found.2, or_right (nat_eq arc.0 found.0 && nat_eq arc.1 found.1) (needs arcs found.0 found.1) found.3)
    ]

arc_passes : (p : ℕ → ℕ → Bool) (arcs : List Arc) (a b : ℕ) → needs arcs a b ≡ true → p a b ≡ true → list_any (λ arc. p arc.0 arc.1) arcs ≡ true
arc_passes p [] a b h is = absurd (false≢true h)
arc_passes p (arc ∷ arcs) a b h is =
    elim (either (nat_eq arc.0 a && nat_eq arc.1 b) (needs arcs a b) h) [
      | inl here ↦
          let ends = both (nat_eq arc.0 a) (nat_eq arc.1 b) here in
          or_left (p arc.0 arc.1) (list_any (λ e. p e.0 e.1) arcs) (subst (λ (n : ℕ). p n arc.1 ≡ true) (sym (eqb-true arc.0 a ends.0)) (subst (λ (n : ℕ). p a n ≡ true) (sym (eqb-true arc.1 b ends.1)) is))
      | inr more ↦ or_right (p arc.0 arc.1) (list_any (λ e. p e.0 e.1) arcs) (arc_passes p arcs a b more is)
    ]

-- ---- coming back off a path

-- a place of the path is left by no arc off it
off_stuck : (path : List ℕ) (arcs : List Arc) (p start : ℕ) → is_in p path ≡ true → reaches (off path arcs) p start ≡ true → p ≡ start
off_stuck path arcs p start in' back =
    eqb-true p start ((reaches_leads (off path arcs) p start back).into (nat_eq p) closed (eq-eqb p p refl))
  where
    closed : IsClosed (off path arcs) (nat_eq p)
    closed a b need is =
        let out : is_in a path ≡ false = (needs_off path arcs a b need).0 in
        absurd (false≢true (sym out ∙ ap (λ (n : ℕ). is_in n path) (sym (eqb-true p a is)) ∙ in'))

-- what comes back does so without a place of which all arcs that come back lead over others
no_back : (arcs : List Arc) (path : List ℕ) (p start : ℕ) → nat_eq p start ≡ false → list_any (λ arc. nat_eq arc.0 p && reaches (off (p ∷ path) arcs) arc.1 start) arcs ≡ false → reaches (off path arcs) p start ≡ true → false ≡ true
no_back arcs path p start other none back =
    let all : (nat_eq start p || not (reaches (off (p ∷ path) arcs) start start)) ≡ true =
    (reaches_leads (off path arcs) p start back).into (λ x. nat_eq x p || not (reaches (off (p ∷ path) arcs) x start)) closed (or_left (nat_eq p p) (not (reaches (off (p ∷ path) arcs) p start)) (eq-eqb p p refl)) in
    elim (either (nat_eq start p) (not (reaches (off (p ∷ path) arcs) start start)) all) [
      | inl same ↦ sym other ∙ eq-eqb p start (sym (eqb-true start p same))
      | inr away ↦ sym (not_true (reaches (off (p ∷ path) arcs) start start) away) ∙ leads_reaches (off (p ∷ path) arcs) start start (leads_self (off (p ∷ path) arcs) start)
    ]
  where
    closed : IsClosed (off path arcs) (λ x. nat_eq x p || not (reaches (off (p ∷ path) arcs) x start))
    closed a b need is =
        let parts = needs_off path arcs a b need in
        elim (cases_Bool (reaches (off (p ∷ path) arcs) b start)) [
          | inr away ↦ or_right (nat_eq b p) (not (reaches (off (p ∷ path) arcs) b start)) (ap not away)
          | inl comes ↦
              elim (cases_Bool (nat_eq a p)) [
                | inl same ↦ absurd (false≢true (sym none ∙ arc_passes (λ x y. nat_eq x p && reaches (off (p ∷ path) arcs) y start) arcs a b parts.1 (and_true (nat_eq a p) (reaches (off (p ∷ path) arcs) b start) same comes)))
                | inr apart ↦
                    let out : is_in a (p ∷ path) ≡ false = ap (λ (c : Bool). c || is_in a path) apart ∙ parts.0 in
                    let on : reaches (off (p ∷ path) arcs) a start ≡ true =
                    leads_reaches (off (p ∷ path) arcs) a start
                    (leads_on (off (p ∷ path) arcs) a b start (leads_step (off (p ∷ path) arcs) a b (off_needs (p ∷ path) arcs a b out parts.1)) (reaches_leads (off (p ∷ path) arcs) b start comes)) in
                    elim (either (nat_eq a p) (not (reaches (off (p ∷ path) arcs) a start)) is) [
                      | inl same ↦ absurd (false≢true (sym apart ∙ same))
                      | inr away ↦ absurd (false≢true (sym (not_true (reaches (off (p ∷ path) arcs) a start) away) ∙ on))
                    ]
              ]
        ]

-- that an arc leads on from which the start is reached off the path
abbrev GoesOn : List Arc → ℕ → List ℕ → ℕ → Type 0
GoesOn arcs start path last = (b : ℕ) × (needs arcs last b ≡ true) × (reaches (off path arcs) b start ≡ true)

goes_on : (arcs : List Arc) (path : List ℕ) (p start : ℕ) → nat_eq p start ≡ false → reaches (off path arcs) p start ≡ true → GoesOn arcs start (p ∷ path) p
goes_on arcs path p start other back =
    elim (cases_Bool (list_any (λ arc. nat_eq arc.0 p && reaches (off (p ∷ path) arcs) arc.1 start) arcs)) [
      | inl some ↦
          let found = any_arc (λ x y. nat_eq x p && reaches (off (p ∷ path) arcs) y start) arcs some in
          let parts = both (nat_eq found.0 p) (reaches (off (p ∷ path) arcs) found.1 start) found.2 in
          (found.1, subst (λ (n : ℕ). needs arcs n found.1 ≡ true) (eqb-true found.0 p parts.0) found.3, parts.1)
      | inr none ↦ absurd (false≢true (no_back arcs path p start other none back))
    ]

-- ---- the path is back at its start

abbrev Ends : ℕ → List ℕ → Type 0
Ends start places = (front : List ℕ) × (places ≡ front ++ start ∷ [])

unlike : (p : ℕ) (places : List ℕ) → is_in p places ≡ false → AllByRecursion (λ y. nat_eq p y ≡ false) places
unlike p [] out = tt
unlike p (y ∷ places) out =
    elim (cases_Bool (nat_eq p y)) [
      | inl is ↦ absurd (false≢true (sym out ∙ or_left (nat_eq p y) (is_in p places) is))
      | inr isnt ↦ (isnt, unlike p places (sym (ap (λ (b : Bool). b || is_in p places) isnt) ∙ out))
    ]

rest_ends : (rounds n : ℕ) (arcs : List Arc) (start : ℕ) (path : List ℕ) (last : ℕ) → AreWithin n arcs → IsDistinct nat_eq path → AllByRecursion (λ place. place < n) path → n < rounds + length path → GoesOn arcs start path last → Ends start (rest_of_path rounds n arcs start path last)
unfolding rest_of_path next_on_path
rest_ends zero n arcs start path last within distinct low many goes =
    let few : length path ≤ n = length-le_from_distinct_below path n distinct (λ q h. holds_in (λ place. place < n) q path low h) in
    absurd (omega arith)
rest_ends (suc rounds) n arcs start path last within distinct low many goes =
    by (λ p. rest_ends rounds n arcs start (p ∷ path) p within) (next_on_path n arcs start path last) refl found
  where
    found : (y : ℕ) × (next_on_path n arcs start path last ≡ Some y)
    found =
        let small : goes.0 < n = (holds_of_arc (λ x y. (x < n) × (y < n)) arcs (recursion_from_All (λ arc. (arc.0 < n) × (arc.1 < n)) arcs within) last goes.0 goes.1).1 in
        find_some (λ place. needs arcs last place && reaches (off path arcs) place start) goes.0 (range_with_len 0 n) (in_range 0 n goes.0 (omega arith) (omega arith)) (and_true (needs arcs last goes.0) (reaches (off path arcs) goes.0 start) goes.1 goes.2)

    by : ((p : ℕ) → IsDistinct nat_eq (p ∷ path) → AllByRecursion (λ place. place < n) (p ∷ path) → n < rounds + length (p ∷ path) → GoesOn arcs start (p ∷ path) p → Ends start (rest_of_path rounds n arcs start (p ∷ path) p))
        → (o : Option ℕ) → next_on_path n arcs start path last ≡ o → (y : ℕ) × (next_on_path n arcs start path last ≡ Some y) → Ends start (rest_of_path (suc rounds) n arcs start path last)
    by later None none' some = let both' : Some some.0 ≡ None = sym some.1 ∙ none' in absurd cc
    by later (Some place) is some =
        let parts = both (needs arcs last place) (reaches (off path arcs) place start) (found_in (λ x. needs arcs last x && reaches (off path arcs) x start) (range_with_len 0 n) place is).1 in
        elim (cases_Bool (nat_eq place start)) [
          | inl same ↦ rw (is, same) ([], ap (λ (k : ℕ). k ∷ []) (eqb-true place start same))
          | inr other ↦
              let out : is_in place path ≡ false = elim (cases_Bool (is_in place path)) [
                | inl in' ↦ absurd (false≢true (sym other ∙ eq-eqb place start (off_stuck path arcs place start in' parts.1)))
                | inr out' ↦ out'
              ] in
              let small : place < n = (holds_of_arc (λ x y. (x < n) × (y < n)) arcs (recursion_from_All (λ arc. (arc.0 < n) × (arc.1 < n)) arcs within) last place parts.0).1 in
              let rest = later place (IsDistinct-cons nat_eq place path (unlike place path out) distinct) (small, low) (omega arith) (goes_on arcs path place start other parts.1) in
              rw (is, other) (place ∷ rest.0, ap (λ (l : List ℕ). place ∷ l) rest.1)
        ]

-- on a cycle an arc begins at the first place of one from which it is reached off that place
begins : (n : ℕ) (arcs : List Arc) (start : ℕ) → first_on_cycle n arcs ≡ Some start → GoesOn arcs start (start ∷ []) start
unfolding first_on_cycle on_cycle
begins n arcs start is =
    let some : list_any (λ arc. nat_eq arc.0 start && on_cycle arcs arc) arcs ≡ true = (found_in (λ place. list_any (λ arc. nat_eq arc.0 place && on_cycle arcs arc) arcs) (range_with_len 0 n) start is).1 in
    let found = any_arc (λ x y. nat_eq x start && reaches arcs y x) arcs some in
    let parts = both (nat_eq found.0 start) (reaches arcs found.1 found.0) found.2 in
    let same : found.0 ≡ start = eqb-true found.0 start parts.0 in
    (found.1, subst (λ (k : ℕ). needs arcs k found.1 ≡ true) same found.3, back found.1 (subst (λ (k : ℕ). reaches arcs found.1 k ≡ true) same parts.1))
  where
    closed : IsClosed arcs (λ x. not (reaches (off (start ∷ []) arcs) x start))
    closed a b need away =
        elim (cases_Bool (reaches (off (start ∷ []) arcs) b start)) [
          | inr isnt ↦ ap not isnt
          | inl comes ↦
              elim (cases_Bool (nat_eq a start)) [
                | inl same ↦
                    let self : reaches (off (start ∷ []) arcs) a start ≡ true = subst (λ (k : ℕ). reaches (off (start ∷ []) arcs) a k ≡ true) (eqb-true a start same) (leads_reaches (off (start ∷ []) arcs) a a (leads_self (off (start ∷ []) arcs) a)) in
                    absurd (false≢true (sym (not_true (reaches (off (start ∷ []) arcs) a start) away) ∙ self))
                | inr apart ↦
                    let out : is_in a (start ∷ []) ≡ false = ap (λ (c : Bool). c || false) apart in
                    let on : reaches (off (start ∷ []) arcs) a start ≡ true =
                    leads_reaches (off (start ∷ []) arcs) a start
                    (leads_on (off (start ∷ []) arcs) a b start (leads_step (off (start ∷ []) arcs) a b (off_needs (start ∷ []) arcs a b out need)) (reaches_leads (off (start ∷ []) arcs) b start comes)) in
                    absurd (false≢true (sym (not_true (reaches (off (start ∷ []) arcs) a start) away) ∙ on))
              ]
        ]

    back : (b : ℕ) → reaches arcs b start ≡ true → reaches (off (start ∷ []) arcs) b start ≡ true
    back b comes =
        elim (cases_Bool (reaches (off (start ∷ []) arcs) b start)) [
          | inl is' ↦ is'
          | inr isnt ↦
              let away : not (reaches (off (start ∷ []) arcs) start start) ≡ true = (reaches_leads arcs b start comes).into (λ x. not (reaches (off (start ∷ []) arcs) x start)) closed (ap not isnt) in
              absurd (false≢true (sym (not_true (reaches (off (start ∷ []) arcs) start start) away) ∙ leads_reaches (off (start ∷ []) arcs) start start (leads_self (off (start ∷ []) arcs) start)))
        ]

alone : (start : ℕ) → IsDistinct nat_eq (start ∷ [])
unfolding IsDistinct
alone start = (tt, tt)

told_ends : (n : ℕ) (arcs : List Arc) (start : ℕ) → AreWithin n arcs → first_on_cycle n arcs ≡ Some start → Ends start (rest_of_path n n arcs start (start ∷ []) start)
unfolding first_on_cycle
told_ends n arcs start within is =
    let goes = begins n arcs start is in
    let small : start < n = (holds_of_arc (λ x y. (x < n) × (y < n)) arcs (recursion_from_All (λ arc. (arc.0 < n) × (arc.1 < n)) arcs within) start goes.0 goes.1).0 in
    rest_ends n n arcs start (start ∷ []) start within (alone start) (small, tt) (omega arith) goes

pub told_round : (n : ℕ) (arcs : List Arc) → AreWithin n arcs → IsRound (told_cycle n arcs)
unfolding told_cycle
told_round n arcs within = by (first_on_cycle n arcs) refl
  where
    by : (o : Option ℕ) → first_on_cycle n arcs ≡ o → IsRound (told_cycle n arcs)
    by None none' = rw none' refl
    by (Some start) is =
        let ends = told_ends n arcs start within is in
        let begin : told_cycle n arcs ≡ start ∷ rest_of_path n n arcs start (start ∷ []) start = told_begins n arcs start is in
        round_is (start ∷ ends.0) (rest_of_path n n arcs start (start ∷ []) start) (told_cycle n arcs) start (begin ∙ ap (λ (l : List ℕ). start ∷ l) ends.1) begin

pub told_some : (n : ℕ) (arcs : List Arc) (a b : ℕ) → AreWithin n arcs → needs arcs a b ≡ true → on_cycle arcs (a, b) ≡ true → 1 < length (told_cycle n arcs)
unfolding first_on_cycle
told_some n arcs a b within need is =
    let small : a < n = (holds_of_arc (λ x y. (x < n) × (y < n)) arcs (recursion_from_All (λ arc. (arc.0 < n) × (arc.1 < n)) arcs within) a b need).0 in
    let first = find_some (λ place. list_any (λ arc. nat_eq arc.0 place && on_cycle arcs arc) arcs) a (range_with_len 0 n) (in_range 0 n a (omega arith) (omega arith))
    (arc_passes (λ x y. nat_eq x a && on_cycle arcs (x, y)) arcs a b need (and_true (nat_eq a a) (on_cycle arcs (a, b)) (eq-eqb a a refl) is)) in
    let ends = told_ends n arcs first.0 within first.1 in
    let long : length (rest_of_path n n arcs first.0 (first.0 ∷ []) first.0) ≡ length ends.0 + 1 = ap length ends.1 ∙ length_push ends.0 first.0 in
    let whole : length (told_cycle n arcs) ≡ length (first.0 ∷ rest_of_path n n arcs first.0 (first.0 ∷ []) first.0) = ap length (told_begins n arcs first.0 first.1) in
    omega arith
