-- Places that are placed one by one from the end are placed as the order has it.
use Rattle.std.proofs.Common.{◌≡◌, ◌≢◌, ℕ, zero, suc, ◌+◌, ◌<◌, ◌≤◌, Bool, true, false, List, [], ◌∷◌, ◌++◌, length, get_or, Option, Some, None, inl, inr, refl, sym, ap, subst, ◌∙◌, arith}
use Rattle.std.specs.Prelude.{◌&&◌, ◌||◌, nat_eq, not, reverse}
use Rattle.std.specs.List.{All, AllByRecursion, filter, list_any, range_with_len}
use Rattle.std.specs.List.Sorted.{IsPermutation}
use Rattle.std.specs.BinaryHeap.{IsHeap, IsUpperBound}
use Rattle.std.specs.Ordering.{nat_cmp, is_lt}
use Rattle.std.proofs.lemmas.Bool.{false≢true, cases_Bool, cases_lt, cases_eq, lt-ltb, eqb-true, eq-eqb, ne_eqb}
use Rattle.std.proofs.lemmas.List.{append-nil, append_assoc, reverse-append, nil_from_length}
use Rattle.std.proofs.lemmas.List.Elements.{recursion_from_All, All-head}
use Rattle.std.proofs.lemmas.List.FromFn.{length-range_with_len}
use Rattle.std.proofs.lemmas.List.Sorted.{All-permutation, IsPermutation-sym, IsPermutation-reverse, list_any-IsPermutation}
use Rattle.graph_walks.specs.Arcs.{Arc, needs, arcs_from, is_in, AreWithin}
use Rattle.graph_walks.specs.Counting.{one_if, ending, waiting, times, AreFree, AreReleased}
use Rattle.graph_walks.specs.Filling.{is_free, last_free, without, filled, order_of}
use Rattle.graph_walks.proofs.Ascending.{Ascends, ascends_kept}
use Rattle.graph_walks.proofs.Counted.{one_same, one_other, times_pushed}
use Rattle.graph_walks.proofs.Tests.{either, both, or_left, or_right, not_true, in_right, holds_in, each_in, each_arc, holds_of_arc, in_kept, from_kept, is_in-append, in_range, from_range, range_ascends, any_from, some_of, found_in, find_last, find_last_none}

-- the places that aren't placed yet
abbrev pub rest : ℕ → List ℕ → List ℕ
rest count placed = filter (λ place. not (is_in place placed)) (range_with_len 0 count)

in_rest : (n : ℕ) (placed : List ℕ) (x : ℕ) → x < n → is_in x placed ≡ false → is_in x (rest n placed) ≡ true
in_rest n placed x low out =
    in_kept (λ place. not (is_in place placed)) x (range_with_len 0 n) (in_range 0 n x (omega arith) (omega arith)) (rw out refl)

from_rest : (n : ℕ) (placed : List ℕ) (x : ℕ) → is_in x (rest n placed) ≡ true → (x < n) × (is_in x placed ≡ false)
from_rest n placed x h =
    let parts = from_kept (λ place. not (is_in place placed)) x (range_with_len 0 n) h in
    (from_range n x parts.0, not_true (is_in x placed) parts.1)

rest_ascends : (n : ℕ) (placed : List ℕ) → Ascends (λ x y. x < y) (rest n placed)
rest_ascends n placed =
    ascends_kept (λ place. not (is_in place placed)) (λ x y. x < y) (λ x y. x < y) (range_with_len 0 n) (λ x y h k less. less) (range_ascends 0 n)

-- ---- one more place

in_push_same : (x : ℕ) (placed : List ℕ) → is_in x (placed ++ x ∷ []) ≡ true
in_push_same x placed = in_right x placed (x ∷ []) (or_left (nat_eq x x) false (eq-eqb x x refl))

or_none : (b : Bool) → (b || false) ≡ b
or_none true = refl
or_none false = refl

in_push_other : (v x : ℕ) (placed : List ℕ) → v ≢ x → is_in v (placed ++ x ∷ []) ≡ is_in v placed
in_push_other v x placed other =
    is_in-append v placed (x ∷ [])
    ∙ ap (λ (b : Bool). is_in v placed || (b || false)) (ne_eqb v x other)
    ∙ or_none (is_in v placed)

filter_twice : (p q r : ℕ → Bool) (xs : List ℕ) → ((x : ℕ) → r x ≡ (q x && p x)) → filter p (filter q xs) ≡ filter r xs
filter_twice p q r [] is = refl
filter_twice p q r (x ∷ xs) is =
    let more : filter p (filter q xs) ≡ filter r xs = filter_twice p q r xs is in
    let here : r x ≡ (q x && p x) = is x in
    elim (cases_Bool (q x)) [
      | inl q_is ↦ elim (cases_Bool (p x)) [
        | inl p_is ↦ rw (here, q_is, p_is) (ap (λ (l : List ℕ). x ∷ l) more)
        | inr p_isnt ↦ rw (here, q_is, p_isnt) more
      ]
      | inr q_isnt ↦ rw (here, q_isnt) more
    ]

neither : (a b : Bool) → not (a || (b || false)) ≡ (not a && not b)
neither true b = refl
neither false true = refl
neither false false = refl

rest_push : (n : ℕ) (placed : List ℕ) (x : ℕ) → rest n (placed ++ x ∷ []) ≡ without x (rest n placed)
unfolding without
rest_push n placed x =
    sym (filter_twice (λ other. not (nat_eq other x)) (λ place. not (is_in place placed)) (λ place. not (is_in place (placed ++ x ∷ []))) (range_with_len 0 n)
    (λ v. ap not (is_in-append v placed (x ∷ [])) ∙ neither (is_in v placed) (nat_eq v x)))

rest_start : (xs : List ℕ) → filter (λ place. not (is_in place [])) xs ≡ xs
rest_start [] = refl
rest_start (x ∷ xs) = ap (λ (l : List ℕ). x ∷ l) (rest_start xs)

kept_short : (p : ℕ → Bool) (xs : List ℕ) → length (filter p xs) ≤ length xs
kept_short p [] = omega arith
kept_short p (x ∷ xs) =
    let more : length (filter p xs) ≤ length xs = kept_short p xs in
    elim (cases_Bool (p x)) [ inl is ↦ rw is (omega arith) | inr isnt ↦ rw isnt (omega arith) ]

pub without_shorter : (x : ℕ) (xs : List ℕ) → is_in x xs ≡ true → length (without x xs) < length xs
unfolding without
without_shorter x [] h = absurd (false≢true h)
without_shorter x (y ∷ xs) h =
    elim (cases_eq y x) [
      | inl same ↦
          let gone : nat_eq y x ≡ true = eq-eqb y x same in
          let short : length (filter (λ other. not (nat_eq other x)) xs) ≤ length xs = kept_short (λ other. not (nat_eq other x)) xs in
          rw gone (omega arith)
      | inr other ↦
          let kept : nat_eq y x ≡ false = ne_eqb y x other in
          let there : is_in x xs ≡ true = elim (either (nat_eq x y) (is_in x xs) h) [ inl is ↦ absurd (other (sym (eqb-true x y is))) | inr more ↦ more ] in
          let less : length (filter (λ other. not (nat_eq other x)) xs) < length xs = without_shorter x xs there in
          rw kept (omega arith)
    ]

pub rest_falls : (n : ℕ) (placed : List ℕ) (x : ℕ) → x < n → is_in x placed ≡ false → length (rest n (placed ++ x ∷ [])) < length (rest n placed)
rest_falls n placed x low out =
    subst (λ (l : List ℕ). length l < length (rest n placed)) (sym (rest_push n placed x)) (without_shorter x (rest n placed) (in_rest n placed x low out))

-- ---- how the order goes on

last_in : (arcs : List Arc) (left : List ℕ) (x : ℕ) → last_free arcs left ≡ Some x → is_in x left ≡ true
unfolding last_free
last_in arcs left x h =
    let there : is_in x (reverse left) ≡ true = (found_in (is_free arcs left) (reverse left) x h).0 in
    list_any-IsPermutation (nat_eq x) left (reverse left) (IsPermutation-reverse left) ∙ there

pub filled_enough : (arcs : List Arc) (k j : ℕ) (left : List ℕ) → length left ≤ k → length left ≤ j → filled k arcs left ≡ filled j arcs left
unfolding filled last_free
filled_enough arcs zero zero left small low = refl
filled_enough arcs zero (suc j) left small low =
    let none : [] ≡ left = sym (nil_from_length left (omega arith)) in
    subst (λ (l : List ℕ). [] ≡ filled (suc j) arcs l) none refl
filled_enough arcs (suc k) zero left small low =
    let none : [] ≡ left = sym (nil_from_length left (omega arith)) in
    subst (λ (l : List ℕ). filled (suc k) arcs l ≡ []) none refl
filled_enough arcs (suc k) (suc j) left small low =
    by (λ l a b. filled_enough arcs k j l a b) (last_free arcs left) refl
  where
    by : ((l : List ℕ) → length l ≤ k → length l ≤ j → filled k arcs l ≡ filled j arcs l) → (o : Option ℕ) → last_free arcs left ≡ o → filled (suc k) arcs left ≡ filled (suc j) arcs left
    by later None none = rw none refl
    by later (Some x) some =
        let less : length (without x left) < length left = without_shorter x left (last_in arcs left x some) in
        rw some (ap (λ (l : List ℕ). l ++ x ∷ []) (later (without x left) (omega arith) (omega arith)))

fill_step : (arcs : List Arc) (left : List ℕ) (x : ℕ) → last_free arcs left ≡ Some x → filled (length left) arcs left ≡ filled (length (without x left)) arcs (without x left) ++ x ∷ []
unfolding filled
fill_step arcs [] x last = absurd (false≢true (last_in arcs [] x last))
fill_step arcs (y ∷ ys) x last =
    let left : List ℕ = y ∷ ys in
    let less : length (without x left) < length left = without_shorter x left (last_in arcs left x last) in
    let same : filled (length ys) arcs (without x left) ≡ filled (length (without x left)) arcs (without x left) = filled_enough arcs (length ys) (length (without x left)) (without x left) (omega arith) (omega arith) in
    rw last (ap (λ (l : List ℕ). l ++ x ∷ []) same)

fill_end : (arcs : List Arc) (left : List ℕ) → last_free arcs left ≡ None → filled (length left) arcs left ≡ []
unfolding filled
fill_end arcs [] none = refl
fill_end arcs (y ∷ ys) none = rw none refl

-- ---- what waits, and what is free

taken_one : (b : Bool) → one_if (b && false) + one_if b ≡ one_if (b && true)
taken_one true = refl
taken_one false = refl

pub taken : (arcs : List Arc) (placed : List ℕ) (x v : ℕ) → is_in x placed ≡ false → waiting arcs (placed ++ x ∷ []) v + ending (arcs_from x arcs) v ≡ waiting arcs placed v
taken [] placed x v out = refl
taken (arc ∷ arcs) placed x v out =
    let more : waiting arcs (placed ++ x ∷ []) v + ending (arcs_from x arcs) v ≡ waiting arcs placed v = taken arcs placed x v out in
    elim (cases_eq arc.0 x) [
      | inl same ↦
          let is : nat_eq arc.0 x ≡ true = eq-eqb arc.0 x same in
          let now : is_in arc.0 (placed ++ x ∷ []) ≡ true = subst (λ (n : ℕ). is_in n (placed ++ x ∷ []) ≡ true) (sym same) (in_push_same x placed) in
          let before : is_in arc.0 placed ≡ false = subst (λ (n : ℕ). is_in n placed ≡ false) (sym same) out in
          let one : one_if (nat_eq arc.1 v && false) + one_if (nat_eq arc.1 v) ≡ one_if (nat_eq arc.1 v && true) = taken_one (nat_eq arc.1 v) in
          rw (is, now, before) (omega arith)
      | inr other ↦
          let isnt : nat_eq arc.0 x ≡ false = ne_eqb arc.0 x other in
          let kept : is_in arc.0 (placed ++ x ∷ []) ≡ is_in arc.0 placed = in_push_other arc.0 x placed other in
          rw (isnt, kept) (omega arith)
    ]

some_wait : (arcs : List Arc) (placed : List ℕ) (s v : ℕ) → needs arcs s v ≡ true → is_in s placed ≡ false → 1 ≤ waiting arcs placed v
some_wait [] placed s v h out = absurd (false≢true h)
some_wait (arc ∷ arcs) placed s v h out =
    elim (either (nat_eq arc.0 s && nat_eq arc.1 v) (needs arcs s v) h) [
      | inl is ↦
          let ends = both (nat_eq arc.0 s) (nat_eq arc.1 v) is in
          let end : nat_eq arc.1 v ≡ true = ends.1 in
          let begin : is_in arc.0 placed ≡ false = subst (λ (n : ℕ). is_in n placed ≡ false) (sym (eqb-true arc.0 s ends.0)) out in
          rw (end, begin) (omega arith)
      | inr more ↦ let later : 1 ≤ waiting arcs placed v = some_wait arcs placed s v more out in omega arith
    ]

none_wait : (arcs : List Arc) (placed : List ℕ) (v : ℕ) → AllByRecursion (λ arc. nat_eq arc.1 v ≡ true → is_in arc.0 placed ≡ false → ⊥) arcs → waiting arcs placed v ≡ 0
none_wait [] placed v all = refl
none_wait (arc ∷ arcs) placed v all =
    let more : waiting arcs placed v ≡ 0 = none_wait arcs placed v all.1 in
    elim (cases_Bool (nat_eq arc.1 v)) [
      | inl end ↦ elim (cases_Bool (is_in arc.0 placed)) [
        | inl in' ↦ rw (end, in') (omega arith)
        | inr out ↦ absurd (all.0 end out)
      ]
      | inr other ↦ rw other (omega arith)
    ]

pub free_where_none_waits : (n : ℕ) (arcs : List Arc) (placed : List ℕ) (v : ℕ) → waiting arcs placed v ≡ 0 → is_free arcs (rest n placed) v ≡ true
unfolding is_free
free_where_none_waits n arcs placed v none =
    elim (cases_Bool (list_any (λ other. needs arcs other v) (rest n placed))) [
      | inl some ↦
          let found = some_of (λ other. needs arcs other v) (rest n placed) some in
          let waits : 1 ≤ waiting arcs placed v = some_wait arcs placed found.0 v found.2 (from_rest n placed found.0 found.1).1 in
          absurd (omega arith)
      | inr none' ↦ rw none' refl
    ]

pub none_waits_where_free : (n : ℕ) (arcs : List Arc) (placed : List ℕ) (v : ℕ) → AreWithin n arcs → is_free arcs (rest n placed) v ≡ true → waiting arcs placed v ≡ 0
unfolding is_free
none_waits_where_free n arcs placed v within free =
    none_wait arcs placed v (each_arc (λ a b. nat_eq b v ≡ true → is_in a placed ≡ false → ⊥) arcs (λ a b need. no a b need))
  where
    no : (a b : ℕ) → needs arcs a b ≡ true → nat_eq b v ≡ true → is_in a placed ≡ false → ⊥
    no a b need end out =
        let low : a < n = (holds_of_arc (λ a b. (a < n) × (b < n)) arcs (recursion_from_All (λ arc. (arc.0 < n) × (arc.1 < n)) arcs within) a b need).0 in
        let need_v : needs arcs a v ≡ true = subst (λ (m : ℕ). needs arcs a m ≡ true) (eqb-true b v end) need in
        let some : list_any (λ other. needs arcs other v) (rest n placed) ≡ true = any_from (λ other. needs arcs other v) a (rest n placed) (in_rest n placed a low out) need_v in
        false≢true (sym (not_true (list_any (λ other. needs arcs other v) (rest n placed)) free) ∙ some)

-- ---- the loop

abbrev pub gone_of : List ℕ → ℕ → ℕ
gone_of placed v = one_if (is_in v placed)

pub record IsFilling (n : ℕ) (arcs : List Arc) (placed counts free : List ℕ) : Type 0 where
  pub told : order_of n arcs ≡ filled (length (rest n placed)) arcs (rest n placed) ++ reverse placed
  pub count_is : length counts ≡ n
  pub counted : (v : ℕ) → v < n → get_or counts v 0 ≡ waiting arcs placed v
  pub fits : AreFree (gone_of placed) counts free
  pub small : All (λ y. y < n) free
  pub heap : IsHeap nat_cmp free

ending_waits : (arcs : List Arc) (v : ℕ) → ending arcs v ≡ waiting arcs [] v
ending_waits [] v = refl
ending_waits (arc ∷ arcs) v =
    let more : ending arcs v ≡ waiting arcs [] v = ending_waits arcs v in
    elim (cases_Bool (nat_eq arc.1 v)) [ inl is ↦ rw is (omega arith) | inr isnt ↦ rw isnt (omega arith) ]

pub filling_starts : (n : ℕ) (arcs : List Arc) (counts free : List ℕ) → length counts ≡ n → ((v : ℕ) → v < n → get_or counts v 0 ≡ ending arcs v) → AreFree (λ _. 0) counts free → All (λ y. y < length counts) free → IsHeap nat_cmp free → IsFilling n arcs [] counts free
unfolding order_of
filling_starts n arcs counts free long counted fits small heap = record {
  told =
      let all : rest n [] ≡ range_with_len 0 n = rest_start (range_with_len 0 n) in
      subst (λ (l : List ℕ). filled n arcs (range_with_len 0 n) ≡ filled (length l) arcs l ++ []) (sym all)
      (subst (λ (k : ℕ). filled n arcs (range_with_len 0 n) ≡ filled k arcs (range_with_len 0 n) ++ []) (sym (length-range_with_len 0 n)) (sym (append-nil (filled n arcs (range_with_len 0 n)))));
  count_is = long;
  counted = λ v low. counted v low ∙ ending_waits arcs v;
  fits = record { each = fits.each };
  small = subst (λ (k : ℕ). All (λ y. y < k) free) long small;
  heap = heap;
}

-- what is taken from the free places is the last free one
pub record IsTaken (n : ℕ) (arcs : List Arc) (placed counts free : List ℕ) (x : ℕ) : Type 0 where
  pub low : x < n
  pub out : is_in x placed ≡ false
  pub last : last_free arcs (rest n placed) ≡ Some x
  pub counted : (v : ℕ) → v < length counts → ending (arcs_from x arcs) v ≤ get_or counts v 0
  pub fits : AreFree (gone_of (placed ++ x ∷ [])) counts free
  pub small : All (λ y. y < length counts) free

one_small : (b : Bool) → one_if b ≤ 1
one_small true = omega arith
one_small false = omega arith

one_is : (b : Bool) → one_if b ≡ 0 → b ≡ false
one_is true h = absurd (omega arith)
one_is false h = refl

one_isnt : (b : Bool) → 1 ≤ one_if b → b ≡ true
one_isnt true h = refl
one_isnt false h = absurd (omega arith)

times_in : (x : ℕ) (xs : List ℕ) → 1 ≤ times x xs → is_in x xs ≡ true
times_in x [] h = absurd (omega arith)
times_in x (y ∷ xs) h =
    let all : times x (y ∷ xs) ≡ one_if (nat_eq x y) + times x xs = times_pushed x y xs (y ∷ xs) (IsPermutation-sym (y ∷ xs) (y ∷ xs) (IsPermutation-sym (y ∷ xs) (y ∷ xs) same)) in
    elim (cases_Bool (nat_eq x y)) [
      | inl is ↦ or_left (nat_eq x y) (is_in x xs) is
      | inr isnt ↦
          let none : one_if (nat_eq x y) ≡ 0 = rw isnt refl in
          or_right (nat_eq x y) (is_in x xs) (times_in x xs (omega arith))
    ]
  where
    same : IsPermutation (y ∷ xs) (y ∷ xs)
    same = record { moves = []; below = tt; is = refl }

pub taken_is : (n : ℕ) (arcs : List Arc) (placed counts free left : List ℕ) (x : ℕ) → AreWithin n arcs → IsFilling n arcs placed counts free → IsPermutation free (x ∷ left) → IsUpperBound nat_cmp x left → IsTaken n arcs placed counts left x
unfolding last_free
taken_is n arcs placed counts free left x within filling perm above =
    record { low = low; out = out; last = last; counted = counted; fits = fits; small = small }
  where
    low : x < n
    low = All-head (λ y. y < n) x left (All-permutation (λ y. y < n) free (x ∷ left) perm filling.small)

    pushed : (v : ℕ) → times v free ≡ one_if (nat_eq v x) + times v left
    pushed v = times_pushed v x left free (IsPermutation-sym free (x ∷ left) perm)

    small : All (λ y. y < length counts) left
    small k d less =
        let long : length counts ≡ n = filling.count_is in
        let here : get_or (x ∷ left) (suc k) d < n = All-permutation (λ y. y < n) free (x ∷ left) perm filling.small (suc k) d (omega arith) in
        omega arith

    at : (v : ℕ) → v < n → one_if (nat_eq v x) + times v left + gone_of placed v ≡ one_if (nat_eq (get_or counts v 0) 0)
    at v less =
        let long : length counts ≡ n = filling.count_is in
        let fit : times v free + gone_of placed v ≡ one_if (nat_eq (get_or counts v 0) 0) = filling.fits.each v (omega arith) in
        let all : times v free ≡ one_if (nat_eq v x) + times v left = pushed v in
        omega arith

    out : is_in x placed ≡ false
    out =
        let fit : one_if (nat_eq x x) + times x left + gone_of placed x ≡ one_if (nat_eq (get_or counts x 0) 0) = at x low in
        let one : one_if (nat_eq x x) ≡ 1 = one_same x x refl in
        let most : one_if (nat_eq (get_or counts x 0) 0) ≤ 1 = one_small (nat_eq (get_or counts x 0) 0) in
        one_is (is_in x placed) (omega arith)

    no_more : times x left ≡ 0
    no_more =
        let fit : one_if (nat_eq x x) + times x left + gone_of placed x ≡ one_if (nat_eq (get_or counts x 0) 0) = at x low in
        let one : one_if (nat_eq x x) ≡ 1 = one_same x x refl in
        let most : one_if (nat_eq (get_or counts x 0) 0) ≤ 1 = one_small (nat_eq (get_or counts x 0) 0) in
        omega arith

    none_left : get_or counts x 0 ≡ 0
    none_left =
        let fit : one_if (nat_eq x x) + times x left + gone_of placed x ≡ one_if (nat_eq (get_or counts x 0) 0) = at x low in
        let one : one_if (nat_eq x x) ≡ 1 = one_same x x refl in
        eqb-true (get_or counts x 0) 0 (one_isnt (nat_eq (get_or counts x 0) 0) (omega arith))

    free_x : is_free arcs (rest n placed) x ≡ true
    free_x = free_where_none_waits n arcs placed x (sym (filling.counted x low) ∙ none_left)

    not_above : (y : ℕ) → is_lt (nat_cmp x y) ≡ false → y ≤ x
    not_above y h = elim (cases_lt x y) [ inl less ↦ absurd (false≢true (sym h ∙ rw (lt-ltb x y less) refl)) | inr fine ↦ fine ]

    most : (y : ℕ) → is_in y (rest n placed) ≡ true → is_free arcs (rest n placed) y ≡ true → y ≤ x
    most y in' free_y =
        let parts = from_rest n placed y in' in
        let none : get_or counts y 0 ≡ 0 = filling.counted y parts.0 ∙ none_waits_where_free n arcs placed y within free_y in
        let fit : one_if (nat_eq y x) + times y left + gone_of placed y ≡ one_if (nat_eq (get_or counts y 0) 0) = at y parts.0 in
        let one : one_if (nat_eq (get_or counts y 0) 0) ≡ 1 = one_same (get_or counts y 0) 0 none in
        let gone : gone_of placed y ≡ 0 = let o : is_in y placed ≡ false = parts.1 in rw o refl in
        elim (cases_eq y x) [
          | inl same ↦ omega arith
          | inr other ↦
              let no : one_if (nat_eq y x) ≡ 0 = one_other y x other in
              not_above y (holds_in (λ z. is_lt (nat_cmp x z) ≡ false) y left above (times_in y left (omega arith)))
        ]

    last : last_free arcs (rest n placed) ≡ Some x
    last = find_last (is_free arcs (rest n placed)) (rest n placed) x (rest_ascends n placed) (in_rest n placed x low out) free_x most

    counted : (v : ℕ) → v < length counts → ending (arcs_from x arcs) v ≤ get_or counts v 0
    counted v less =
        let long : length counts ≡ n = filling.count_is in
        let is : get_or counts v 0 ≡ waiting arcs placed v = filling.counted v (omega arith) in
        let all : waiting arcs (placed ++ x ∷ []) v + ending (arcs_from x arcs) v ≡ waiting arcs placed v = taken arcs placed x v out in
        omega arith

    fits : AreFree (gone_of (placed ++ x ∷ [])) counts left
    fits = record {
      each = λ v less.
          let long : length counts ≡ n = filling.count_is in
          let fit : one_if (nat_eq v x) + times v left + gone_of placed v ≡ one_if (nat_eq (get_or counts v 0) 0) = at v (omega arith) in
          elim (cases_eq v x) [
            | inl same ↦
                let one : one_if (nat_eq v x) ≡ 1 = one_same v x same in
                let gone : gone_of placed v ≡ 0 = let o : is_in v placed ≡ false = subst (λ (m : ℕ). is_in m placed ≡ false) (sym same) out in rw o refl in
                let now : gone_of (placed ++ x ∷ []) v ≡ 1 = let o : is_in v (placed ++ x ∷ []) ≡ true = subst (λ (m : ℕ). is_in m (placed ++ x ∷ []) ≡ true) (sym same) (in_push_same x placed) in rw o refl in
                omega arith
            | inr other ↦
                let no : one_if (nat_eq v x) ≡ 0 = one_other v x other in
                let now : gone_of (placed ++ x ∷ []) v ≡ gone_of placed v = ap one_if (in_push_other v x placed other) in
                omega arith
          ];
    }

pub filling_goes_on : (n : ℕ) (arcs : List Arc) (placed counts free left : List ℕ) (x : ℕ) (after more : List ℕ) → IsFilling n arcs placed counts free → IsTaken n arcs placed counts left x → AreReleased (arcs_from x arcs) counts after → ((gone : ℕ → ℕ) → AreFree gone counts left → AreFree gone after more) → All (λ y. y < length counts) more → IsHeap nat_cmp more → IsFilling n arcs (placed ++ x ∷ []) after more
filling_goes_on n arcs placed counts free left x after more filling taken' released fit kept heap = record {
  told =
      let left_now : List ℕ = without x (rest n placed) in
      let step : filled (length (rest n placed)) arcs (rest n placed) ≡ filled (length left_now) arcs left_now ++ x ∷ [] = fill_step arcs (rest n placed) x taken'.last in
      let back : reverse (placed ++ x ∷ []) ≡ x ∷ reverse placed = reverse-append placed (x ∷ []) in
      let moved : order_of n arcs ≡ filled (length left_now) arcs left_now ++ reverse (placed ++ x ∷ []) =
      filling.told
      ∙ ap (λ (l : List ℕ). l ++ reverse placed) step
      ∙ append_assoc (filled (length left_now) arcs left_now) (x ∷ []) (reverse placed)
      ∙ ap (λ (l : List ℕ). filled (length left_now) arcs left_now ++ l) (sym back) in
      subst (λ (l : List ℕ). order_of n arcs ≡ filled (length l) arcs l ++ reverse (placed ++ x ∷ [])) (sym (rest_push n placed x)) moved;
  count_is = released.count_is ∙ filling.count_is;
  counted = λ v low.
      let long : length counts ≡ n = filling.count_is in
      let is : get_or counts v 0 ≡ waiting arcs placed v = filling.counted v low in
      let less : get_or after v 0 + ending (arcs_from x arcs) v ≡ get_or counts v 0 = released.each v (omega arith) in
      let all : waiting arcs (placed ++ x ∷ []) v + ending (arcs_from x arcs) v ≡ waiting arcs placed v = taken arcs placed x v taken'.out in
      omega arith;
  fits = fit (gone_of (placed ++ x ∷ [])) taken'.fits;
  small = subst (λ (k : ℕ). All (λ y. y < k) more) filling.count_is kept;
  heap = heap;
}

pub filling_ends : (n : ℕ) (arcs : List Arc) (placed counts free : List ℕ) → AreWithin n arcs → IsFilling n arcs placed counts free → free ≡ [] → reverse placed ≡ order_of n arcs
unfolding last_free
filling_ends n arcs placed counts free within filling empty =
    sym (filling.told ∙ ap (λ (l : List ℕ). l ++ reverse placed) (fill_end arcs (rest n placed) none))
  where
    not_free : (y : ℕ) → is_in y (rest n placed) ≡ true → is_free arcs (rest n placed) y ≡ false
    not_free y in' =
        let parts = from_rest n placed y in' in
        elim (cases_Bool (is_free arcs (rest n placed) y)) [
          | inl free_y ↦
              let long : length counts ≡ n = filling.count_is in
              let low : y < n = parts.0 in
              let none_left : get_or counts y 0 ≡ 0 = filling.counted y low ∙ none_waits_where_free n arcs placed y within free_y in
              let fit : times y free + gone_of placed y ≡ one_if (nat_eq (get_or counts y 0) 0) = filling.fits.each y (omega arith) in
              let one : one_if (nat_eq (get_or counts y 0) 0) ≡ 1 = one_same (get_or counts y 0) 0 none_left in
              let gone : gone_of placed y ≡ 0 = let o : is_in y placed ≡ false = parts.1 in rw o refl in
              let no : times y free ≡ 0 = ap (times y) empty in
              absurd (omega arith)
          | inr isnt ↦ isnt
        ]

    none : last_free arcs (rest n placed) ≡ None
    none = find_last_none (is_free arcs (rest n placed)) (rest n placed) (each_in (λ y. is_free arcs (rest n placed) y ≡ false) (rest n placed) not_free)
