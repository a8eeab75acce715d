-- What a list by rising numbers keeps of the list that it was made from.
use Rattle.std.proofs.Common.{◌≡◌, ℤ, Bool, true, false, cond, List, [], ◌∷◌, refl, sym, ap, ◌∙◌}
use Rattle.std.specs.List.{AllByRecursion, filter}
use Rattle.std.specs.Cmp.{IsStrictWeakOrder}
use Rattle.std.specs.declared.cmp.Ordering.{Ordering}
use Rattle.std.specs.declared.cmp.Ordering.TheVariants.{Less, Equal, Greater}
use Rattle.std.specs.Ordering.{int_cmp, is_lt, is_le, ordering_reverse}
use Rattle.std.proofs.lemmas.Bool.{cond_both, true≢false}
use Rattle.std.proofs.lemmas.Cmp.{int_cmp_total}
use Rattle.std.proofs.lemmas.List.Sorted.{ranks_by}
use Rattle.oid_groups.specs.Orders.{placed, by_number}
use Rattle.oid_groups.proofs.OneOrder.{Rises, each}

-- whether a row has the lower number
abbrev pub lower : {R : Type 0} → (R → ℤ) → R → R → Bool
lower number a b = is_lt (int_cmp (number a) (number b))

pub numbers_are_ordered : {R : Type 0} (number : R → ℤ) → IsStrictWeakOrder (lower number)
numbers_are_ordered number = ranks_by int_cmp_total number

not_below : (o : Ordering) → is_le o ≡ true → is_lt (ordering_reverse o) ≡ false
not_below Less le = refl
not_below Equal le = refl
not_below Greater le = absurd (true≢false (sym le))

not_above : (o : Ordering) → is_le o ≡ false → is_lt o ≡ false
not_above Less gt = absurd (true≢false gt)
not_above Equal gt = refl
not_above Greater gt = refl

-- a row that comes first isn't above, and one that comes later isn't below
first_is_low : {R : Type 0} (number : R → ℤ) (a b : R) → is_le (int_cmp (number a) (number b)) ≡ true → lower number b a ≡ false
first_is_low number a b le = ap is_lt (int_cmp_total.antisymm (number b) (number a)) ∙ not_below (int_cmp (number a) (number b)) le

pub each_placed : {R : Type 0} (number : R → ℤ) (P : R → Type 0) (row : R) (rows : List R) → P row → AllByRecursion P rows → AllByRecursion P (placed number row rows)
unfolding placed
each_placed number P row [] one all = (one, tt)
each_placed number P row (r ∷ rs) one all =
    cond_both (is_le (int_cmp (number row) (number r))) (row ∷ r ∷ rs) (r ∷ placed number row rs) (AllByRecursion P) (λ le. (one, all)) (λ gt. (all.0, each_placed number P row rs one all.1))

pub each_by_number : {R : Type 0} (number : R → ℤ) (P : R → Type 0) (rows : List R) → AllByRecursion P rows → AllByRecursion P (by_number number rows)
unfolding by_number
each_by_number number P [] all = tt
each_by_number number P (row ∷ rows) all = each_placed number P row (by_number number rows) all.0 (each_by_number number P rows all.1)

rises_placed : {R : Type 0} (number : R → ℤ) (row : R) (rows : List R) → Rises (lower number) rows → Rises (lower number) (placed number row rows)
unfolding placed
rises_placed number row [] up = (tt, tt)
rises_placed number row (r ∷ rs) up =
    cond_both (is_le (int_cmp (number row) (number r))) (row ∷ r ∷ rs) (r ∷ placed number row rs) (Rises (lower number))
    (λ le. let low = first_is_low number row r le in ((low, each (λ y. lower number y r ≡ false) (λ y. lower number y row ≡ false) rs (λ y above. (numbers_are_ordered number).chain y r row above low) up.0), up))
    (λ gt. (each_placed number (λ y. lower number y r ≡ false) row rs (not_above (int_cmp (number row) (number r)) gt) up.0, rises_placed number row rs up.1))

-- rows by number rise
pub rises_by_number : {R : Type 0} (number : R → ℤ) (rows : List R) → Rises (lower number) (by_number number rows)
unfolding by_number
rises_by_number number [] = tt
rises_by_number number (row ∷ rows) = rises_placed number row (by_number number rows) (rises_by_number number rows)

-- rows that a test keeps have one number
abbrev pub OneNumber : {R : Type 0} → (R → ℤ) → (R → Bool) → Type 0
OneNumber {R} number p = (a b : R) → p a ≡ true → p b ≡ true → is_le (int_cmp (number a) (number b)) ≡ true

-- such rows stand in the order that they had
kept_placed : {R : Type 0} (number : R → ℤ) (p : R → Bool) → OneNumber number p → (row : R) (rows : List R) → filter p (placed number row rows) ≡ filter p (row ∷ rows)
unfolding placed
kept_placed number p one row [] = refl
kept_placed {R} number p one row (r ∷ rs) =
    cond_both (is_le (int_cmp (number row) (number r))) (row ∷ r ∷ rs) (r ∷ placed number row rs) (λ l. filter p l ≡ filter p (row ∷ r ∷ rs))
    (λ le. refl)
    (λ gt. ap (λ (l : List R). cond (p r) (r ∷ l) l) (kept_placed number p one row rs) ∙ past gt (p r) (p row) refl refl)
  where
    past : is_le (int_cmp (number row) (number r)) ≡ false → (b c : Bool) → p r ≡ b → p row ≡ c → cond {A = List R} (p r) (r ∷ cond (p row) (row ∷ filter p rs) (filter p rs)) (cond (p row) (row ∷ filter p rs) (filter p rs)) ≡ cond {A = List R} (p row) (row ∷ cond (p r) (r ∷ filter p rs) (filter p rs)) (cond (p r) (r ∷ filter p rs) (filter p rs))
    past gt true true of_r of_row = absurd (true≢false (sym (one row r of_row of_r) ∙ gt))
    past gt true false of_r of_row = rw (of_r, of_row) refl
    past gt false c of_r of_row = rw of_r refl

pub kept_by_number : {R : Type 0} (number : R → ℤ) (p : R → Bool) → OneNumber number p → (rows : List R) → filter p (by_number number rows) ≡ filter p rows
unfolding by_number
kept_by_number number p one [] = refl
kept_by_number {R} number p one (row ∷ rows) =
    kept_placed number p one row (by_number number rows) ∙ ap (λ (l : List R). cond (p row) (row ∷ l) l) (kept_by_number number p one rows)
