-- Rows by rising numbers, where each stands for the thing of a place: they stand in the order of the places.
use Rattle.std.proofs.Common.{◌≡◌, ◌⊎◌, ℕ, zero, suc, ◌<◌, ℤ, Bool, true, false, true≢false, cond, List, [], ◌∷◌, map, Option, Some, unwrap_or, refl, ap, sym, subst, ◌∙◌, inl, inr, arith}
use Rattle.std.proofs.lemmas.Option.{none-some}
use Rattle.std.specs.declared.cmp.Ordering.{Ordering}
use Rattle.std.specs.declared.cmp.Ordering.TheVariants.{Less, Equal, Greater}
use Rattle.std.specs.Ordering.{int_cmp, is_lt, is_le, ordering_reverse}
use Rattle.std.specs.Cmp.{IsStrictWeakOrder, int_cmp_total, tied_itself}
use Rattle.std.proofs.lemmas.List.Sorted.{ranks_by}
use Rattle.std.specs.List.{slice_get, filter_map, cons_option}
use Rattle.oid_groups.specs.Orders.{placed, by_number}
use Rattle.cat_sound.proofs.Lists.{IsIn}
use Rattle.named_objects.proofs.Counting.{Pairs, pairs_weaker}

-- ---- what is placed

either_cond : {A : Type 0} (x : A) (b : Bool) (xs ys : List A) → IsIn x xs → IsIn x ys → IsIn x (cond b xs ys)
either_cond x true xs ys one other = one
either_cond x false xs ys one other = other

placed_first : {R : Type 0} (number : R → ℤ) (row : R) (rows : List R) → IsIn row (placed number row rows)
unfolding placed
placed_first number row [] = inl refl
placed_first number row (r ∷ rs) = either_cond row (is_le (int_cmp (number row) (number r))) (row ∷ r ∷ rs) (r ∷ placed number row rs) (inl refl) (inr (placed_first number row rs))

placed_later : {R : Type 0} (number : R → ℤ) (row x : R) (rows : List R) → IsIn x rows → IsIn x (placed number row rows)
unfolding placed
placed_later number row x [] among = elim among [ ]
placed_later number row x (r ∷ rs) (inl e) = either_cond x (is_le (int_cmp (number row) (number r))) (row ∷ r ∷ rs) (r ∷ placed number row rs) (inr (inl e)) (inl e)
placed_later number row x (r ∷ rs) (inr later) = either_cond x (is_le (int_cmp (number row) (number r))) (row ∷ r ∷ rs) (r ∷ placed number row rs) (inr (inr later)) (inr (placed_later number row x rs later))

in_by_number : {R : Type 0} (number : R → ℤ) (rows : List R) (x : R) → IsIn x rows → IsIn x (by_number number rows)
unfolding by_number
in_by_number number [] x among = elim among [ ]
in_by_number number (row ∷ rows) x (inl e) = subst (λ y. IsIn y (placed number row (by_number number rows))) e (placed_first number row (by_number number rows))
in_by_number number (row ∷ rows) x (inr later) = placed_later number row x (by_number number rows) (in_by_number number rows x later)

from_placed : {R : Type 0} (number : R → ℤ) (row : R) (rows : List R) (y : R) → IsIn y (placed number row rows) → (row ≡ y) ⊎ IsIn y rows
unfolding placed
from_placed number row [] y (inl e) = inl e
from_placed number row [] y (inr none) = elim none [ ]
from_placed {R = R} number row (r ∷ rs) y among = by (from_placed number row rs y) (is_le (int_cmp (number row) (number r))) among
  where
    by : (IsIn y (placed number row rs) → (row ≡ y) ⊎ IsIn y rs) → (b : Bool) → IsIn y (cond b (row ∷ r ∷ rs) (r ∷ placed number row rs)) → (row ≡ y) ⊎ IsIn y (r ∷ rs)
    by more true (inl e) = inl e
    by more true (inr later) = inr later
    by more false (inl e) = inr (inl e)
    by more false (inr later) = at (more later)
      where
        at : (row ≡ y) ⊎ IsIn y rs → (row ≡ y) ⊎ IsIn y (r ∷ rs)
        at (inl e) = inl e
        at (inr later) = inr (inr later)

from_by_number : {R : Type 0} (number : R → ℤ) (rows : List R) (x : R) → IsIn x (by_number number rows) → IsIn x rows
unfolding by_number
from_by_number number [] x among = elim among [ ]
from_by_number {R = R} number (row ∷ rows) x among = by (from_by_number number rows x) (from_placed number row (by_number number rows) x among)
  where
    by : (IsIn x (by_number number rows) → IsIn x rows) → (row ≡ x) ⊎ IsIn x (by_number number rows) → IsIn x (row ∷ rows)
    by more (inl e) = inl e
    by more (inr later) = inr (more later)

pairs_placed : {R : Type 0} (Q : R → R → Type 0) → ((a b : R) → Q a b → Q b a) → (number : R → ℤ) (row : R) (rows : List R) → ((y : R) → IsIn y rows → Q row y) → Pairs Q rows → Pairs Q (placed number row rows)
unfolding placed
pairs_placed Q turn number row [] first all = ((λ y among. elim among [ ]), tt)
pairs_placed {R = R} Q turn number row (r ∷ rs) first all = by (is_le (int_cmp (number row) (number r))) (pairs_placed Q turn number row rs (λ y among. first y (inr among)) all.1)
  where
    behind : (y : R) → (row ≡ y) ⊎ IsIn y rs → Q r y
    behind y (inl e) = subst (Q r) e (turn row r (first r (inl refl)))
    behind y (inr later) = all.0 y later

    by : (b : Bool) → Pairs Q (placed number row rs) → Pairs Q (cond b (row ∷ r ∷ rs) (r ∷ placed number row rs))
    by true more = (first, all)
    by false more = (λ y among. behind y (from_placed number row rs y among), more)

pairs_by_number : {R : Type 0} (Q : R → R → Type 0) → ((a b : R) → Q a b → Q b a) → (number : R → ℤ) (rows : List R) → Pairs Q rows → Pairs Q (by_number number rows)
unfolding by_number
pairs_by_number Q turn number [] all = tt
pairs_by_number Q turn number (row ∷ rows) all = pairs_placed Q turn number row (by_number number rows) (λ y among. all.0 y (from_by_number number rows y among)) (pairs_by_number Q turn number rows all.1)

-- ---- rows by number rise

-- whether a row has the lower number
abbrev lower : {R : Type 0} → (R → ℤ) → R → R → Bool
lower number a b = is_lt (int_cmp (number a) (number b))

numbers_are_ordered : {R : Type 0} (number : R → ℤ) → IsStrictWeakOrder (lower number)
numbers_are_ordered number = ranks_by int_cmp_total number

not_below : (o : Ordering) → is_le o ≡ true → is_lt (ordering_reverse o) ≡ false
not_below Less le = refl
not_below Equal le = refl
not_below Greater le = absurd (true≢false (sym le))

not_above : (o : Ordering) → is_le o ≡ false → is_lt o ≡ false
not_above Less gt = absurd (true≢false gt)
not_above Equal gt = refl
not_above Greater gt = refl

-- no later row has a lower number
abbrev Rises : {R : Type 0} → (R → ℤ) → List R → Type 0
Rises number rows = Pairs (λ a b. lower number b a ≡ false) rows

rises_placed : {R : Type 0} (number : R → ℤ) (row : R) (rows : List R) → Rises number rows → Rises number (placed number row rows)
unfolding placed
rises_placed number row [] up = ((λ y among. elim among [ ]), tt)
rises_placed {R = R} number row (r ∷ rs) up = by (is_le (int_cmp (number row) (number r))) refl (rises_placed number row rs up.1)
  where
    low : is_le (int_cmp (number row) (number r)) ≡ true → lower number r row ≡ false
    low le = ap is_lt (int_cmp_total.antisymm (number r) (number row)) ∙ not_below (int_cmp (number row) (number r)) le

    behind_row : is_le (int_cmp (number row) (number r)) ≡ true → (y : R) → (r ≡ y) ⊎ IsIn y rs → lower number y row ≡ false
    behind_row le y (inl e) = subst (λ (z : R). lower number z row ≡ false) e (low le)
    behind_row le y (inr later) = (numbers_are_ordered number).chain y r row (up.0 y later) (low le)

    behind_r : is_le (int_cmp (number row) (number r)) ≡ false → (y : R) → (row ≡ y) ⊎ IsIn y rs → lower number y r ≡ false
    behind_r gt y (inl e) = subst (λ (z : R). lower number z r ≡ false) e (not_above (int_cmp (number row) (number r)) gt)
    behind_r gt y (inr later) = up.0 y later

    by : (b : Bool) → is_le (int_cmp (number row) (number r)) ≡ b → Rises number (placed number row rs) → Rises number (cond b (row ∷ r ∷ rs) (r ∷ placed number row rs))
    by true le more = (behind_row le, up)
    by false gt more = (λ y among. behind_r gt y (from_placed number row rs y among), more)

rises_by_number : {R : Type 0} (number : R → ℤ) (rows : List R) → Rises number (by_number number rows)
unfolding by_number
rises_by_number number [] = tt
rises_by_number number (row ∷ rows) = rises_placed number row (by_number number rows) (rises_by_number number rows)

-- ---- rows of the things of a list

-- a row for each place, each row of a place, no two of one; their numbers rise with the places
pub record AreLined {A R : Type 0} (number : R → ℤ) (Says : ℕ → A → R → Type 0) (xs : List A) (rows : List R) : Type 0 where
  pub each : (i : ℕ) (x : A) → slice_get xs i ≡ Some x → (r : R) × IsIn r rows × Says i x r
  pub only : (r : R) → IsIn r rows → (i : ℕ) × (x : A) × (slice_get xs i ≡ Some x) × Says i x r
  pub once : Pairs (λ a b. (i : ℕ) (x : A) → Says i x a → Says i x b → ⊥) rows
  pub rises : (i j : ℕ) (x y : A) (a b : R) → i < j → slice_get xs i ≡ Some x → slice_get xs j ≡ Some y → Says i x a → Says j y b → int_cmp (number a) (number b) ≡ Less

pub lined_by_number : {A R : Type 0} (number : R → ℤ) (Says : ℕ → A → R → Type 0) (xs : List A) (rows : List R) → AreLined number Says xs rows → AreLined number Says xs (by_number number rows)
lined_by_number {A = A} number Says xs rows are = record {
  each = λ i x at. let one = are.each i x at in (one.0, in_by_number number rows one.0 one.1, one.2);
  only = λ r among. are.only r (from_by_number number rows r among);
  once = pairs_by_number (λ a b. (i : ℕ) (x : A) → Says i x a → Says i x b → ⊥) (λ a b no i x one two. no i x two one) number rows are.once;
  rises = are.rises;
}

-- one behind the other
abbrev pub Zipped : {A R : Type 0} → (ℕ → A → R → Type 0) → List A → List R → Type 0
Zipped Says [] [] = Unit {0}
Zipped Says [] (r ∷ rows) = ⊥
Zipped Says (x ∷ xs) [] = ⊥
Zipped Says (x ∷ xs) (r ∷ rows) = Says 0 x r × Zipped (λ i. Says (suc i)) xs rows

itself_not_less : {R : Type 0} (number : R → ℤ) (r : R) → int_cmp (number r) (number r) ≡ Less → ⊥
itself_not_less number r e = true≢false (sym (ap is_lt e) ∙ ap is_lt (tied_itself int_cmp_total (number r)))

in_order : {A R : Type 0} (number : R → ℤ) (Says : ℕ → A → R → Type 0) (xs : List A) (rows : List R) → Rises number rows → AreLined number Says xs rows → Zipped Says xs rows
in_order number Says [] [] up are = tt
in_order number Says [] (s ∷ rows) up are = let one = are.only s (inl refl) in none-some one.1 one.2
in_order number Says (x ∷ xs) [] up are = let one = are.each 0 x refl in elim one.1 [ ]
in_order {A = A} {R = R} number Says (x ∷ xs) (s ∷ rows) up are =
    let first = head (are.only s (inl refl)) in
    (first, in_order number (λ i. Says (suc i)) xs rows up.1 (tail first))
  where
    same : (y : A) → Some x ≡ Some y → y ≡ x
    same y e = ap (λ (o : Option A). unwrap_or o x) (sym e)

    head_by : (i : ℕ) (y : A) → slice_get (x ∷ xs) (suc i) ≡ Some y → Says (suc i) y s → (r : R) → (s ≡ r) ⊎ IsIn r rows → Says 0 x r → Says 0 x s
    head_by i y at says r (inl e) first = subst (Says 0 x) (sym e) first
    head_by i y at says r (inr later) first =
        let less : int_cmp (number r) (number s) ≡ Less = are.rises 0 (suc i) x y r s (omega arith) refl at first says in
        let not_less : lower number r s ≡ false = up.0 r later in
        absurd (true≢false (sym (ap is_lt less) ∙ not_less))

    head : (i : ℕ) × (y : A) × (slice_get (x ∷ xs) i ≡ Some y) × Says i y s → Says 0 x s
    head (zero, y, at, says) = subst (λ (z : A). Says 0 z s) (same y at) says
    head (suc i, y, at, says) = let one = are.each 0 x refl in head_by i y at says one.0 one.1 one.2

    tail : Says 0 x s → AreLined number (λ i. Says (suc i)) xs rows
    tail first = record {
      each = λ i y at. each i y at (are.each (suc i) y at);
      only = λ r among. only r among (are.only r (inr among));
      once = pairs_weaker (λ a b. (i : ℕ) (y : A) → Says i y a → Says i y b → ⊥) (λ a b. (i : ℕ) (y : A) → Says (suc i) y a → Says (suc i) y b → ⊥) (λ a b no i y one two. no (suc i) y one two) rows are.once.1;
      rises = λ i j y z a b below at_i at_j one two. are.rises (suc i) (suc j) y z a b (omega (arith, below)) at_i at_j one two;
    }
      where
        each_by : (i : ℕ) (y : A) → slice_get xs i ≡ Some y → (r : R) → (s ≡ r) ⊎ IsIn r rows → Says (suc i) y r → (q : R) × IsIn q rows × Says (suc i) y q
        each_by i y at r (inr later) says = (r, later, says)
        each_by i y at r (inl e) says = absurd (itself_not_less number s (are.rises 0 (suc i) x y s s (omega arith) refl at first (subst (Says (suc i) y) (sym e) says)))

        each : (i : ℕ) (y : A) → slice_get xs i ≡ Some y → (r : R) × IsIn r (s ∷ rows) × Says (suc i) y r → (r : R) × IsIn r rows × Says (suc i) y r
        each i y at one = each_by i y at one.0 one.1 one.2

        only : (r : R) → IsIn r rows → (i : ℕ) × (y : A) × (slice_get (x ∷ xs) i ≡ Some y) × Says i y r → (i : ℕ) × (y : A) × (slice_get xs i ≡ Some y) × Says (suc i) y r
        only r among (zero, y, at, says) = absurd (are.once.0 r among 0 x first (subst (λ (z : A). Says 0 z r) (same y at) says))
        only r among (suc i, y, at, says) = (i, y, at, says)

-- the rows by number stand in the order of the places
pub lined_up : {A R : Type 0} (number : R → ℤ) (Says : ℕ → A → R → Type 0) (xs : List A) (rows : List R) → AreLined number Says xs rows → Zipped Says xs (by_number number rows)
lined_up number Says xs rows are = in_order number Says xs (by_number number rows) (rises_by_number number rows) (lined_by_number number Says xs rows are)

-- and so what is made of each
pub mapped_up : {A R B : Type 0} (Says : ℕ → A → R → Type 0) (f : R → B) (g : A → B) → ((i : ℕ) (x : A) (r : R) → Says i x r → f r ≡ g x) → (xs : List A) (rows : List R) → Zipped Says xs rows → map f rows ≡ map g xs
mapped_up Says f g so [] [] zipped = refl
mapped_up Says f g so [] (r ∷ rows) zipped = elim zipped [ ]
mapped_up Says f g so (x ∷ xs) [] zipped = elim zipped [ ]
mapped_up Says f g so (x ∷ xs) (r ∷ rows) zipped =
    let first = so 0 x r zipped.0 in
    let more = mapped_up (λ i. Says (suc i)) f g (λ i. so (suc i)) xs rows zipped.1 in
    λ k. first k ∷ more k

pub given_up : {A R B : Type 0} (Says : ℕ → A → R → Type 0) (f : R → Option B) (g : A → B) → ((i : ℕ) (x : A) (r : R) → Says i x r → f r ≡ Some (g x)) → (xs : List A) (rows : List R) → Zipped Says xs rows → filter_map f rows ≡ map g xs
given_up Says f g so [] [] zipped = refl
given_up Says f g so [] (r ∷ rows) zipped = elim zipped [ ]
given_up Says f g so (x ∷ xs) [] zipped = elim zipped [ ]
given_up {B = B} Says f g so (x ∷ xs) (r ∷ rows) zipped =
    let first = so 0 x r zipped.0 in
    let more = given_up (λ i. Says (suc i)) f g (λ i. so (suc i)) xs rows zipped.1 in
    ap (λ (o : Option B). cons_option o (filter_map f rows)) first ∙ ap (λ (ys : List B). g x ∷ ys) more
