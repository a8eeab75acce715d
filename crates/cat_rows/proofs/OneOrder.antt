-- Rows have one order: two lists of the same rows that stand in a table's order are one list.
use Rattle.std.proofs.Common.{◌≡◌, ℕ, suc, ◌+◌, Bool, true, false, cond, List, [], ◌∷◌, get_or, ℤ, refl, sym, ap, subst, ◌∙◌, add-one, arith}
use Rattle.std.specs.List.{All, AllByRecursion, filter}
use Rattle.std.specs.List.Sorted.{IsSortedBy, ties}
use Rattle.std.specs.Cmp.{IsTotalOrder, IsStrictWeakOrder}
use Rattle.std.proofs.lemmas.Cmp.{int_cmp_total, on_total, then_total}
use Rattle.std.proofs.lemmas.List.Sorted.{All-permutation, IsPermutation-refl, sorted_far, ranks_by}
use Rattle.cat_rows.specs.declared.table.SysTable.{SysTable}
use Rattle.cat_rows.specs.declared.cell.Cell.{Cell}
use Rattle.cat_rows.specs.Order.{IsInOrder, key_of, key_cmp, comes_before}

-- ---- lists by recursion

by_recursion : {X : Type 0} (P : X → Type 0) (xs : List X) → All P xs → AllByRecursion P xs
by_recursion P [] all = tt
by_recursion P (x ∷ xs) all = (all 0 x (omega arith), by_recursion P xs (λ k d lt. all (suc k) d (omega arith)))

each : {X : Type 0} (P Q : X → Type 0) (xs : List X) → ((x : X) → P x → Q x) → AllByRecursion P xs → AllByRecursion Q xs
each P Q [] to all = tt
each P Q (x ∷ xs) to all = (to x all.0, each P Q xs to all.1)

-- what holds of each element holds of the first that a test keeps
first_kept : {X : Type 0} (Q : X → Type 0) (p : X → Bool) (xs : List X) (y : X) (ys : List X) → AllByRecursion Q xs → filter p xs ≡ y ∷ ys → Q y
first_kept Q p [] y ys all is = absurd cc
first_kept {X} Q p (x ∷ xs) y ys all is = by (first_kept Q p xs y ys all.1) (p x) refl
  where
    by : (filter p xs ≡ y ∷ ys → Q y) → (kept : Bool) → p x ≡ kept → Q y
    by again true holds =
        let opened : x ∷ filter p xs ≡ y ∷ ys = sym (ap (λ (b : Bool). cond {A = List X} b (x ∷ filter p xs) (filter p xs)) holds) ∙ is in
        let same : x ≡ y = cc in
        subst Q same all.0
    by again false fails = again (sym (ap (λ (b : Bool). cond {A = List X} b (x ∷ filter p xs) (filter p xs)) fails) ∙ is)

-- ---- sorted lists

-- none of the later elements is below an earlier one
abbrev Rises : {X : Type 0} → (X → X → Bool) → List X → Type 0
Rises lt [] = Unit {0}
Rises lt (x ∷ xs) = AllByRecursion (λ y. lt y x ≡ false) xs × Rises lt xs

sorted_tail : {X : Type 0} (lt : X → X → Bool) (x : X) (xs : List X) → IsSortedBy lt (x ∷ xs) → IsSortedBy lt xs
sorted_tail {X} lt x xs sorted k d low high =
    let step : lt (get_or (x ∷ xs) (k + 1 + 1) d) (get_or (x ∷ xs) (k + 1) d) ≡ false = sorted (k + 1) d (omega arith) (omega arith) in
    let lower : lt (get_or (x ∷ xs) (k + 1 + 1) d) (get_or xs k d) ≡ false = subst (λ (i : ℕ). lt (get_or (x ∷ xs) (k + 1 + 1) d) (get_or (x ∷ xs) i d) ≡ false) (add-one k) step in
    subst (λ (i : ℕ). lt (get_or (x ∷ xs) i d) (get_or xs k d) ≡ false) (add-one (k + 1)) lower

rises_from_sorted : {X : Type 0} (lt : X → X → Bool) → IsStrictWeakOrder lt → (xs : List X) → IsSortedBy lt xs → Rises lt xs
rises_from_sorted lt order [] sorted = tt
rises_from_sorted lt order (x ∷ xs) sorted =
    (by_recursion (λ y. lt y x ≡ false) xs (λ k d small. sorted_far lt order (x ∷ xs) sorted 0 (suc k) d (omega arith) (omega arith)), rises_from_sorted lt order xs (sorted_tail lt x xs sorted))

-- ---- one list

not_below_itself : {X : Type 0} (lt : X → X → Bool) → IsStrictWeakOrder lt → (x : X) → lt x x ≡ false
not_below_itself lt order x = by (lt x x) refl
  where
    by : (b : Bool) → lt x x ≡ b → lt x x ≡ false
    by true holds = order.one_way x x holds
    by false fails = fails

tied : {X : Type 0} (lt : X → X → Bool) (x y : X) → lt x y ≡ false → lt y x ≡ false → ties lt x y ≡ true
tied lt x y one other = rw (one, other) refl

kept_first : {X : Type 0} (p : X → Bool) (x : X) (xs : List X) → p x ≡ true → filter p (x ∷ xs) ≡ x ∷ filter p xs
kept_first {X} p x xs holds = ap (λ (b : Bool). cond {A = List X} b (x ∷ filter p xs) (filter p xs)) holds

-- two tests' lists with one element in front that agree, agree behind it
behind_first : {X : Type 0} (p : X → Bool) (x : X) (xs ys : List X) → filter p (x ∷ xs) ≡ filter p (x ∷ ys) → filter p xs ≡ filter p ys
behind_first {X} p x xs ys is = by (p x) refl
  where
    whole : (b : Bool) → p x ≡ b → (l : List X) → filter p (x ∷ l) ≡ cond b (x ∷ filter p l) (filter p l)
    whole b here l = ap (λ (c : Bool). cond {A = List X} c (x ∷ filter p l) (filter p l)) here

    by : (b : Bool) → p x ≡ b → filter p xs ≡ filter p ys
    by true here = let both : x ∷ filter p xs ≡ x ∷ filter p ys = sym (whole true here xs) ∙ is ∙ whole true here ys in cc
    by false here = sym (whole false here xs) ∙ is ∙ whole false here ys

-- the elements that tie with z stand in both lists alike
abbrev TiesAlike : {X : Type 0} → (X → X → Bool) → List X → List X → X → Type 0
TiesAlike lt xs ys z = filter (ties lt z) xs ≡ filter (ties lt z) ys

one_list : {X : Type 0} (lt : X → X → Bool) → IsStrictWeakOrder lt → (xs ys : List X) → Rises lt xs → Rises lt ys → AllByRecursion (TiesAlike lt xs ys) xs → AllByRecursion (TiesAlike lt xs ys) ys → xs ≡ ys
one_list lt order [] [] up_x up_y alike_x alike_y = refl
one_list lt order [] (y ∷ ys) up_x up_y alike_x alike_y =
    let self = not_below_itself lt order y in
    let none : [] ≡ y ∷ filter (ties lt y) ys = alike_y.0 ∙ kept_first (ties lt y) y ys (tied lt y y self self) in
    absurd cc
one_list lt order (x ∷ xs) [] up_x up_y alike_x alike_y =
    let self = not_below_itself lt order x in
    let none : [] ≡ x ∷ filter (ties lt x) xs = sym alike_x.0 ∙ kept_first (ties lt x) x xs (tied lt x x self self) in
    absurd cc
one_list {X} lt order (x ∷ xs) (y ∷ ys) up_x up_y alike_x alike_y =
    let self_x = not_below_itself lt order x in
    let self_y = not_below_itself lt order y in
    let from_x : filter (ties lt x) (y ∷ ys) ≡ x ∷ filter (ties lt x) xs = sym alike_x.0 ∙ kept_first (ties lt x) x xs (tied lt x x self_x self_x) in
    let from_y : filter (ties lt y) (x ∷ xs) ≡ y ∷ filter (ties lt y) ys = alike_y.0 ∙ kept_first (ties lt y) y ys (tied lt y y self_y self_y) in
    let below_x : lt x y ≡ false = first_kept (λ z. lt z y ≡ false) (ties lt x) (y ∷ ys) x (filter (ties lt x) xs) (self_y, up_y.0) from_x in
    let below_y : lt y x ≡ false = first_kept (λ z. lt z x ≡ false) (ties lt y) (x ∷ xs) y (filter (ties lt y) ys) (self_x, up_x.0) from_y in
    let heads : x ∷ filter (ties lt x) xs ≡ y ∷ filter (ties lt x) ys = sym from_x ∙ kept_first (ties lt x) y ys (tied lt x y below_x below_y) in
    let same : x ≡ y = cc in
    let alike : (z : X) → TiesAlike lt (x ∷ xs) (y ∷ ys) z → TiesAlike lt xs ys z = λ z is. behind_first (ties lt z) x xs ys (is ∙ ap (λ (h : X). filter (ties lt z) (h ∷ ys)) (sym same)) in
    let rest : xs ≡ ys = one_list lt order xs ys up_x.1 up_y.1 (each (TiesAlike lt (x ∷ xs) (y ∷ ys)) (TiesAlike lt xs ys) xs alike alike_x.1) (each (TiesAlike lt (x ∷ xs) (y ∷ ys)) (TiesAlike lt xs ys) ys alike alike_y.1) in
    cc

-- ---- rows

key_total : IsTotalOrder key_cmp
key_total = then_total (then_total (on_total (λ (k : ℤ × ℤ × ℤ). k.0) int_cmp_total) (on_total (λ (k : ℤ × ℤ × ℤ). k.1) int_cmp_total)) (on_total (λ (k : ℤ × ℤ × ℤ). k.2) int_cmp_total)

rows_are_ordered : (table : SysTable) → IsStrictWeakOrder (comes_before table)
rows_are_ordered table = ranks_by key_total (key_of table)

pub one_order : (table : SysTable) (rows written other : List (List Cell)) → IsInOrder table rows written → IsInOrder table rows other → written ≡ other
one_order table rows written other is is_too =
    let lt = comes_before table in
    let alike : All (TiesAlike lt written other) rows = λ k d small. is.stable k d small ∙ sym (is_too.stable k d small) in
    one_list lt (rows_are_ordered table) written other
    (rises_from_sorted lt (rows_are_ordered table) written is.rising)
    (rises_from_sorted lt (rows_are_ordered table) other is_too.rising)
    (by_recursion (TiesAlike lt written other) written (All-permutation (TiesAlike lt written other) rows written is.permutation alike))
    (by_recursion (TiesAlike lt written other) other (All-permutation (TiesAlike lt written other) rows other is_too.permutation alike))

pub order_again : (table : SysTable) (rows written : List (List Cell)) → IsInOrder table rows written → IsInOrder table written written
order_again table rows written is = record {
  permutation = IsPermutation-refl written;
  rising = is.rising;
  stable = λ k d small. refl;
}
