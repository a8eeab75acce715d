-- In an order that is filled from its end each place stands behind those that it needs, none stands twice, and none of a
-- cycle stands in it.
use Rattle.std.proofs.Common.{◌≡◌, ◌≢◌, ℕ, zero, suc, ◌+◌, ◌<◌, Bool, true, false, List, [], ◌∷◌, ◌++◌, length, get_or, Option, Some, None, inl, inr, refl, sym, ap, subst, ◌∙◌, arith}
use Rattle.std.specs.Prelude.{◌&&◌, ◌||◌, nat_eq, not, reverse}
use Rattle.std.specs.List.{All, AllByRecursion, IsDistinct, list_any, range_with_len}
use Rattle.std.proofs.lemmas.Bool.{false≢true, cases_Bool, cases_lt, eqb-true, eq-eqb}
use Rattle.std.proofs.lemmas.List.{length_push, get_or_append_left, get_or_push}
use Rattle.std.proofs.lemmas.List.Elements.{recursion_from_All, All-from_recursion}
use Rattle.std.proofs.lemmas.List.Sorted.{IsPermutation-reverse, list_any-IsPermutation}
use Rattle.graph_walks.specs.Arcs.{Arc, needs, is_in, AreWithin}
use Rattle.graph_walks.specs.Filling.{is_free, last_free, without, filled, order_of}
use Rattle.graph_walks.specs.Leading.{IsClosed}
use Rattle.graph_walks.specs.Reaching.{reaches, on_cycle}
use Rattle.graph_walks.specs.Telling.{first_on_cycle, next_on_path, rest_of_path, told_cycle}
use Rattle.graph_walks.proofs.Reached.{leads_self, leads_step, leads_on, reaches_leads, leads_reaches}
use Rattle.graph_walks.proofs.Standings.{in_at}
use Rattle.graph_walks.proofs.Tests.{either, both, and_true, or_left, or_right, not_true, in_either, in_kept, from_kept, in_range, from_range, any_from, some_of, found_in, each_in, holds_of_arc}

-- ---- the last place

pub last_parts : (arcs : List Arc) (left : List ℕ) (x : ℕ) → last_free arcs left ≡ Some x → (is_in x left ≡ true) × (is_free arcs left x ≡ true)
unfolding last_free
last_parts arcs left x is =
    let parts = found_in (is_free arcs left) (reverse left) x is in
    (list_any-IsPermutation (nat_eq x) left (reverse left) (IsPermutation-reverse left) ∙ parts.0, parts.1)

none_needs : (arcs : List Arc) (left : List ℕ) (x y : ℕ) → is_free arcs left x ≡ true → is_in y left ≡ true → needs arcs y x ≡ true → ⊥
unfolding is_free
none_needs arcs left x y free in' need =
    false≢true (sym (not_true (list_any (λ other. needs arcs other x) left) free) ∙ any_from (λ other. needs arcs other x) y left in' need)

pub filled_none : (k : ℕ) (arcs : List Arc) (left : List ℕ) → last_free arcs left ≡ None → filled (suc k) arcs left ≡ []
unfolding filled
filled_none k arcs left none' = rw none' refl

pub filled_some : (k : ℕ) (arcs : List Arc) (left : List ℕ) (x : ℕ) → last_free arcs left ≡ Some x → filled (suc k) arcs left ≡ filled k arcs (without x left) ++ x ∷ []
unfolding filled
filled_some k arcs left x some = rw some refl

from_without : (x y : ℕ) (left : List ℕ) → is_in y (without x left) ≡ true → (is_in y left ≡ true) × (y ≢ x)
unfolding without
from_without x y left h =
    let parts = from_kept (λ other. not (nat_eq other x)) y left h in
    (parts.0, λ same. false≢true (sym (ap not (eq-eqb y x same)) ∙ parts.1))

pub in_without : (x y : ℕ) (left : List ℕ) → is_in y left ≡ true → y ≢ x → is_in y (without x left) ≡ true
unfolding without
in_without x y left h other =
    in_kept (λ o. not (nat_eq o x)) y left h (elim (cases_Bool (nat_eq y x)) [ inl is ↦ absurd (other (eqb-true y x is)) | inr isnt ↦ rw isnt refl ])

filled_among : (k : ℕ) (arcs : List Arc) (left : List ℕ) (y : ℕ) → is_in y (filled k arcs left) ≡ true → is_in y left ≡ true
unfolding filled
filled_among zero arcs left y h = absurd (false≢true h)
filled_among (suc k) arcs left y h = by (λ l in'. filled_among k arcs l y in') (last_free arcs left) refl
  where
    by : ((l : List ℕ) → is_in y (filled k arcs l) ≡ true → is_in y l ≡ true) → (o : Option ℕ) → last_free arcs left ≡ o → is_in y left ≡ true
    by later None none' = absurd (false≢true (subst (λ (l : List ℕ). is_in y l ≡ true) (filled_none k arcs left none') h))
    by later (Some x) some =
        elim (in_either y (filled k arcs (without x left)) (x ∷ []) (subst (λ (l : List ℕ). is_in y l ≡ true) (filled_some k arcs left x some) h)) [
          | inl front ↦ (from_without x y left (later (without x left) front)).0
          | inr last ↦ elim (either (nat_eq y x) false last) [
            | inl is ↦ subst (λ (n : ℕ). is_in n left ≡ true) (sym (eqb-true y x is)) (last_parts arcs left x some).0
            | inr no' ↦ absurd (false≢true no')
          ]
        ]

-- ---- each stands behind those that it needs

abbrev IsBehind : List Arc → List ℕ → Type 0
IsBehind arcs order = (i j : ℕ) → i < length order → j < length order → needs arcs (get_or order i 0) (get_or order j 0) ≡ true → j < i

none_behind : (arcs : List Arc) → IsBehind arcs []
none_behind arcs i j low high need = absurd (omega arith)

filled_behind : (k : ℕ) (arcs : List Arc) (left : List ℕ) → IsBehind arcs (filled k arcs left)
unfolding filled
filled_behind zero arcs left = none_behind arcs
filled_behind (suc k) arcs left = by (λ l. filled_behind k arcs l) (last_free arcs left) refl
  where
    by : ((l : List ℕ) → IsBehind arcs (filled k arcs l)) → (o : Option ℕ) → last_free arcs left ≡ o → IsBehind arcs (filled (suc k) arcs left)
    by later None none' = subst (IsBehind arcs) (sym (filled_none k arcs left none')) (none_behind arcs)
    by later (Some x) some = subst (IsBehind arcs) (sym (filled_some k arcs left x some)) all
      where
        front : List ℕ
        front = filled k arcs (without x left)

        all : IsBehind arcs (front ++ x ∷ [])
        all i j low high need =
            let long : length (front ++ x ∷ []) ≡ length front + 1 = length_push front x in
            elim (cases_lt j (length front)) [
              | inr last ↦
                  let at : get_or (front ++ x ∷ []) j 0 ≡ x = get_or_push front x 0 j (omega arith) in
                  let there : is_in (get_or (front ++ x ∷ []) i 0) (filled (suc k) arcs left) ≡ true = subst (λ (l : List ℕ). is_in (get_or (front ++ x ∷ []) i 0) l ≡ true) (sym (filled_some k arcs left x some)) (in_at (front ++ x ∷ []) i low) in
                  let member : is_in (get_or (front ++ x ∷ []) i 0) left ≡ true = filled_among (suc k) arcs left (get_or (front ++ x ∷ []) i 0) there in
                  absurd (none_needs arcs left x (get_or (front ++ x ∷ []) i 0) (last_parts arcs left x some).1 member (subst (λ (n : ℕ). needs arcs (get_or (front ++ x ∷ []) i 0) n ≡ true) at need))
              | inl early ↦ elim (cases_lt i (length front)) [
                | inr end ↦ omega arith
                | inl inside ↦
                    let i_is : get_or (front ++ x ∷ []) i 0 ≡ get_or front i 0 = get_or_append_left front (x ∷ []) 0 i inside in
                    let j_is : get_or (front ++ x ∷ []) j 0 ≡ get_or front j 0 = get_or_append_left front (x ∷ []) 0 j early in
                    later (without x left) i j inside early (subst (λ (n : ℕ). needs arcs n (get_or front j 0) ≡ true) i_is (subst (λ (n : ℕ). needs arcs (get_or (front ++ x ∷ []) i 0) n ≡ true) j_is need))
              ]
            ]

pub order_behind : (count : ℕ) (arcs : List Arc) (i j : ℕ) → i < length (order_of count arcs) → j < length (order_of count arcs) → needs arcs (get_or (order_of count arcs) i 0) (get_or (order_of count arcs) j 0) ≡ true → j < i
unfolding order_of
order_behind count arcs = filled_behind count arcs (range_with_len 0 count)

pub order_among : (count : ℕ) (arcs : List Arc) (place : ℕ) → is_in place (order_of count arcs) ≡ true → place < count
unfolding order_of
order_among count arcs place h = from_range count place (filled_among count arcs (range_with_len 0 count) place h)

pub order_within : (count : ℕ) (arcs : List Arc) → All (λ place. place < count) (order_of count arcs)
order_within count arcs =
    All-from_recursion (λ place. place < count) (order_of count arcs) (each_in (λ place. place < count) (order_of count arcs) (order_among count arcs))

-- ---- none stands twice

distinct_push : (xs : List ℕ) (x : ℕ) → IsDistinct nat_eq xs → is_in x xs ≡ false → IsDistinct nat_eq (xs ++ x ∷ [])
unfolding IsDistinct
distinct_push [] x distinct out = (tt, tt)
distinct_push (y ∷ xs) x distinct out =
    let other : nat_eq y x ≡ false = elim (cases_Bool (nat_eq y x)) [ inl is ↦ absurd (false≢true (sym out ∙ or_left (nat_eq x y) (is_in x xs) (eq-eqb x y (sym (eqb-true y x is))))) | inr isnt ↦ isnt ] in
    let later : is_in x xs ≡ false = elim (cases_Bool (is_in x xs)) [ inl in' ↦ absurd (false≢true (sym out ∙ or_right (nat_eq x y) (is_in x xs) in')) | inr none' ↦ none' ] in
    (each_push xs other distinct.0, distinct_push xs x distinct.1 later)
  where
    each_push : (ys : List ℕ) → nat_eq y x ≡ false → AllByRecursion (λ z. nat_eq y z ≡ false) ys → AllByRecursion (λ z. nat_eq y z ≡ false) (ys ++ x ∷ [])
    each_push [] other all = (other, tt)
    each_push (z ∷ ys) other all = (all.0, each_push ys other all.1)

filled_distinct : (k : ℕ) (arcs : List Arc) (left : List ℕ) → IsDistinct nat_eq (filled k arcs left)
unfolding filled IsDistinct
filled_distinct zero arcs left = tt
filled_distinct (suc k) arcs left = by (λ l. filled_distinct k arcs l) (last_free arcs left) refl
  where
    by : ((l : List ℕ) → IsDistinct nat_eq (filled k arcs l)) → (o : Option ℕ) → last_free arcs left ≡ o → IsDistinct nat_eq (filled (suc k) arcs left)
    by later None none' = subst (IsDistinct nat_eq) (sym (filled_none k arcs left none')) tt
    by later (Some x) some =
        subst (IsDistinct nat_eq) (sym (filled_some k arcs left x some))
        (distinct_push (filled k arcs (without x left)) x (later (without x left))
        (elim (cases_Bool (is_in x (filled k arcs (without x left)))) [
          | inl in' ↦ absurd ((from_without x x left (filled_among k arcs (without x left) x in')).1 refl)
          | inr out ↦ out
        ]))

pub order_distinct : (count : ℕ) (arcs : List Arc) → IsDistinct nat_eq (order_of count arcs)
unfolding order_of
order_distinct count arcs = filled_distinct count arcs (range_with_len 0 count)

-- ---- none of a cycle stands in it

-- each of a set is needed by one of the set
abbrev AreBound : List Arc → (ℕ → Bool) → List ℕ → Type 0
AreBound arcs set left = (c : ℕ) → is_in c left ≡ true → set c ≡ true → (by : ℕ) × (is_in by left ≡ true) × (set by ≡ true) × (needs arcs by c ≡ true)

bound_out : (k : ℕ) (arcs : List Arc) (set : ℕ → Bool) (left : List ℕ) → AreBound arcs set left → (y : ℕ) → set y ≡ true → is_in y (filled k arcs left) ≡ false
unfolding filled
bound_out zero arcs set left bound y h = refl
bound_out (suc k) arcs set left bound y h = by (λ l b. bound_out k arcs set l b y h) (last_free arcs left) refl
  where
    by : ((l : List ℕ) → AreBound arcs set l → is_in y (filled k arcs l) ≡ false) → (o : Option ℕ) → last_free arcs left ≡ o → is_in y (filled (suc k) arcs left) ≡ false
    by later None none' = subst (λ (l : List ℕ). is_in y l ≡ false) (sym (filled_none k arcs left none')) refl
    by later (Some x) some = subst (λ (l : List ℕ). is_in y l ≡ false) (sym (filled_some k arcs left x some)) out
      where
        x_out : set x ≡ true → ⊥
        x_out is =
            let parts = last_parts arcs left x some in
            let from = bound x parts.0 is in
            none_needs arcs left x from.0 parts.1 from.1 from.3

        still : AreBound arcs set (without x left)
        still c in' is =
            let from = bound c (from_without x c left in').0 is in
            (from.0, in_without x from.0 left from.1 (λ same. x_out (subst (λ (n : ℕ). set n ≡ true) same from.2)), from.2, from.3)

        out : is_in y (filled k arcs (without x left) ++ x ∷ []) ≡ false
        out = elim (cases_Bool (is_in y (filled k arcs (without x left) ++ x ∷ []))) [
          | inr none' ↦ none'
          | inl in' ↦ elim (in_either y (filled k arcs (without x left)) (x ∷ []) in') [
            | inl front ↦ absurd (false≢true (sym (later (without x left) still) ∙ front))
            | inr last ↦ elim (either (nat_eq y x) false last) [
              | inl is ↦ absurd (x_out (subst (λ (n : ℕ). set n ≡ true) (eqb-true y x is) h))
              | inr no' ↦ absurd (false≢true no')
            ]
          ]
        ]

pub cycle_out : (count : ℕ) (arcs : List Arc) (a b : ℕ) → AreWithin count arcs → needs arcs a b ≡ true → on_cycle arcs (a, b) ≡ true → is_in b (order_of count arcs) ≡ false
unfolding order_of on_cycle
cycle_out count arcs a b within need back =
    bound_out count arcs mates (range_with_len 0 count) bound b (and_true (reaches arcs b b) (reaches arcs b b) self self)
  where
    mates : ℕ → Bool
    mates x = reaches arcs b x && reaches arcs x b

    self : reaches arcs b b ≡ true
    self = leads_reaches arcs b b (leads_self arcs b)

    needed_by : ℕ → Bool
    needed_by y = list_any (λ x. mates x && needs arcs x y) (range_with_len 0 count)

    low : (x y : ℕ) → needs arcs x y ≡ true → x < count
    low x y n = (holds_of_arc (λ x y. (x < count) × (y < count)) arcs (recursion_from_All (λ arc. (arc.0 < count) × (arc.1 < count)) arcs within) x y n).0

    found : (x y : ℕ) → mates x ≡ true → needs arcs x y ≡ true → needed_by y ≡ true
    found x y mate n = any_from (λ x. mates x && needs arcs x y) x (range_with_len 0 count) (let l = low x y n in in_range 0 count x (omega arith) (omega arith)) (and_true (mates x) (needs arcs x y) mate n)

    first : needed_by b ≡ true
    first = found a b (and_true (reaches arcs b a) (reaches arcs a b) back (leads_reaches arcs a b (leads_step arcs a b need))) need

    kept : ℕ → Bool
    kept x = reaches arcs b x && (not (mates x) || needed_by x)

    closed : IsClosed arcs kept
    closed x y n h =
        let to_x : reaches arcs b x ≡ true = (both (reaches arcs b x) (not (mates x) || needed_by x) h).0 in
        let to_y : reaches arcs b y ≡ true = leads_reaches arcs b y (leads_on arcs b x y (reaches_leads arcs b x to_x) (leads_step arcs x y n)) in
        and_true (reaches arcs b y) (not (mates y) || needed_by y) to_y
        (elim (cases_Bool (mates y)) [
          | inr isnt ↦ or_left (not (mates y)) (needed_by y) (ap not isnt)
          | inl is ↦
              let from_y = (both (reaches arcs b y) (reaches arcs y b) is).1 in
              let x_back : reaches arcs x b ≡ true = leads_reaches arcs x b (leads_on arcs x y b (leads_step arcs x y n) (reaches_leads arcs y b from_y)) in
              or_right (not (mates y)) (needed_by y) (found x y (and_true (reaches arcs b x) (reaches arcs x b) to_x x_back) n)
        ])

    bound : AreBound arcs mates (range_with_len 0 count)
    bound c in' is =
        let to_c = (both (reaches arcs b c) (reaches arcs c b) is).0 in
        let all : kept c ≡ true = (reaches_leads arcs b c to_c).into kept closed (and_true (reaches arcs b b) (not (mates b) || needed_by b) self (or_right (not (mates b)) (needed_by b) first)) in
        elim (either (not (mates c)) (needed_by c) (both (reaches arcs b c) (not (mates c) || needed_by c) all).1) [
          | inl isnt ↦ absurd (false≢true (sym (not_true (mates c) isnt) ∙ is))
          | inr some ↦
              let from = some_of (λ x. mates x && needs arcs x c) (range_with_len 0 count) some in
              let parts = both (mates from.0) (needs arcs from.0 c) from.2 in
              (from.0, from.1, parts.0, parts.1)
        ]

-- ---- each step of a cycle that is told is an arc

abbrev Follows : List Arc → ℕ → List ℕ → Type 0
Follows arcs last [] = Unit {0}
Follows arcs last (place ∷ places) = (needs arcs last place ≡ true) × Follows arcs place places

rest_follows : (rounds count : ℕ) (arcs : List Arc) (start : ℕ) (path : List ℕ) (last : ℕ) → Follows arcs last (rest_of_path rounds count arcs start path last)
unfolding rest_of_path next_on_path
rest_follows zero count arcs start path last = tt
rest_follows (suc rounds) count arcs start path last = by (λ p l. rest_follows rounds count arcs start p l) (next_on_path count arcs start path last) refl
  where
    by : ((p : List ℕ) (l : ℕ) → Follows arcs l (rest_of_path rounds count arcs start p l)) → (o : Option ℕ) → next_on_path count arcs start path last ≡ o → Follows arcs last (rest_of_path (suc rounds) count arcs start path last)
    by later None none' = rw none' tt
    by later (Some place) some =
        let need : needs arcs last place ≡ true = (both (needs arcs last place) _ (found_in _ (range_with_len 0 count) place some).1).0 in
        elim (cases_Bool (nat_eq place start)) [
          | inl is ↦ rw (some, is) (need, tt)
          | inr isnt ↦ rw (some, isnt) (need, later (place ∷ path) place)
        ]

follows_at : (arcs : List Arc) (last : ℕ) (places : List ℕ) → Follows arcs last places → (i : ℕ) → i + 1 < length (last ∷ places) → needs arcs (get_or (last ∷ places) i 0) (get_or (last ∷ places) (i + 1) 0) ≡ true
follows_at arcs last [] follows i low = absurd (omega arith)
follows_at arcs last (place ∷ places) follows zero low = follows.0
follows_at arcs last (place ∷ places) follows (suc i) low =
    let at : suc i + 1 ≡ suc (i + 1) = omega arith in
    subst (λ (k : ℕ). needs arcs (get_or (place ∷ places) i 0) (get_or (last ∷ place ∷ places) k 0) ≡ true) (sym at) (follows_at arcs place places follows.1 i (omega arith))

pub told_steps : (count : ℕ) (arcs : List Arc) (i : ℕ) → i + 1 < length (told_cycle count arcs) → needs arcs (get_or (told_cycle count arcs) i 0) (get_or (told_cycle count arcs) (i + 1) 0) ≡ true
unfolding told_cycle
told_steps count arcs = by (first_on_cycle count arcs) refl
  where
    by : (o : Option ℕ) → first_on_cycle count arcs ≡ o → (i : ℕ) → i + 1 < length (told_cycle count arcs) → needs arcs (get_or (told_cycle count arcs) i 0) (get_or (told_cycle count arcs) (i + 1) 0) ≡ true
    by None none' = rw none' (λ i low. absurd (omega arith))
    by (Some start) some = rw some (λ i low. follows_at arcs start (rest_of_path count count arcs start (start ∷ []) start) (rest_follows count count arcs start (start ∷ []) start) i low)

-- ---- all places of a cycle that is told are places

rest_within : (rounds count : ℕ) (arcs : List Arc) (start : ℕ) (path : List ℕ) (last : ℕ) → AllByRecursion (λ place. place < count) (rest_of_path rounds count arcs start path last)
unfolding rest_of_path next_on_path
rest_within zero count arcs start path last = tt
rest_within (suc rounds) count arcs start path last = by (λ p l. rest_within rounds count arcs start p l) (next_on_path count arcs start path last) refl
  where
    by : ((p : List ℕ) (l : ℕ) → AllByRecursion (λ place. place < count) (rest_of_path rounds count arcs start p l)) → (o : Option ℕ) → next_on_path count arcs start path last ≡ o → AllByRecursion (λ place. place < count) (rest_of_path (suc rounds) count arcs start path last)
    by later None none' = rw none' tt
    by later (Some place) some =
        let low : place < count = from_range count place (found_in _ (range_with_len 0 count) place some).0 in
        elim (cases_Bool (nat_eq place start)) [
          | inl is ↦ rw (some, is) (low, tt)
          | inr isnt ↦ rw (some, isnt) (low, later (place ∷ path) place)
        ]

told_each : (count : ℕ) (arcs : List Arc) → AllByRecursion (λ place. place < count) (told_cycle count arcs)
unfolding told_cycle first_on_cycle
told_each count arcs = by (first_on_cycle count arcs) refl
  where
    by : (o : Option ℕ) → first_on_cycle count arcs ≡ o → AllByRecursion (λ place. place < count) (told_cycle count arcs)
    by None none' = rw none' tt
    by (Some start) some = rw some (from_range count start (found_in _ (range_with_len 0 count) start some).0, rest_within count count arcs start (start ∷ []) start)

pub told_within : (count : ℕ) (arcs : List Arc) → All (λ place. place < count) (told_cycle count arcs)
told_within count arcs = All-from_recursion (λ place. place < count) (told_cycle count arcs) (told_each count arcs)
