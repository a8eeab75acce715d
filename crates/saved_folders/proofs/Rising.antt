-- Oids by rising number: they rise, each stands as often as it did, and what holds of each still does. So two lists in
-- which each oid stands as often give one.
use Rattle.std.proofs.Common.{◌≡◌, ℕ, ◌≤◌, Bool, true, false, cond, List, [], ◌∷◌, pos, refl, sym, ap, subst, ◌∙◌, arith}
use Rattle.std.specs.Prelude.{not, ◌&&◌, nat_lt}
use Rattle.std.specs.List.{AllByRecursion, filter}
use Rattle.std.specs.List.Sorted.{ties}
use Rattle.std.specs.declared.cmp.Ordering.{Ordering}
use Rattle.std.specs.declared.cmp.Ordering.TheVariants.{Less, Equal, Greater}
use Rattle.std.specs.Ordering.{nat_cmp, int_cmp, is_lt, is_le, ordering_reverse}
use Rattle.std.specs.FinMap.{nat_cmp-IsAntisymmetric}
use Rattle.std.proofs.lemmas.Bool.{true≢false, cond_both, ltb-true, ltb-false}
use Rattle.std.proofs.lemmas.Cmp.{nat_cmp_total}
use Rattle.oid_groups.specs.Orders.{placed, by_number}

-- ---- rising oids

-- no oid of the list is less
abbrev pub Low : ℕ → List ℕ → Type 0
Low oid oids = AllByRecursion (λ o. oid ≤ o) oids

abbrev pub Rises : List ℕ → Type 0
Rises [] = Unit {0}
Rises (oid ∷ oids) = Low oid oids × Rises oids

lower : (a b : ℕ) (oids : List ℕ) → a ≤ b → Low b oids → Low a oids
lower a b [] below low = tt
lower a b (oid ∷ oids) below low = let first = low.0 in (omega (arith, first), lower a b oids below low.1)

-- the test by which a place is found
abbrev stands_before : ℕ → ℕ → Bool
stands_before a b = is_le (int_cmp (pos a) (pos b))

before_is_low : (a b : ℕ) → stands_before a b ≡ true → a ≤ b
before_is_low a b is = by (nat_lt a b) (nat_lt b a) refl refl is
  where
    by : (x y : Bool) → nat_lt a b ≡ x → nat_lt b a ≡ y → is_le (cond x Less (cond y Greater Equal)) ≡ true → a ≤ b
    by true y less more is = let low = ltb-true a b less in omega (arith, low)
    by false true less more is = absurd (true≢false (sym is))
    by false false less more is = ltb-false b a more

behind_is_high : (a b : ℕ) → stands_before a b ≡ false → b ≤ a
behind_is_high a b is = by (nat_lt a b) (nat_lt b a) refl refl is
  where
    by : (x y : Bool) → nat_lt a b ≡ x → nat_lt b a ≡ y → is_le (cond x Less (cond y Greater Equal)) ≡ false → b ≤ a
    by true y less more is = absurd (true≢false is)
    by false true less more is = let low = ltb-true b a more in omega (arith, low)
    by false false less more is = absurd (true≢false is)

low_placed : (a oid : ℕ) (oids : List ℕ) → a ≤ oid → Low a oids → Low a (placed (λ o. pos o) oid oids)
unfolding placed
low_placed a oid [] below low = (below, tt)
low_placed a oid (o ∷ os) below low =
    let rest = low_placed a oid os below low.1 in
    cond_both (stands_before oid o) (oid ∷ o ∷ os) (o ∷ placed (λ o. pos o) oid os) (Low a) (λ le. (below, low)) (λ gt. (low.0, rest))

rises_placed : (oid : ℕ) (oids : List ℕ) → Rises oids → Rises (placed (λ o. pos o) oid oids)
unfolding placed
rises_placed oid [] up = (tt, tt)
rises_placed oid (o ∷ os) up =
    let rest = rises_placed oid os up.1 in
    cond_both (stands_before oid o) (oid ∷ o ∷ os) (o ∷ placed (λ o. pos o) oid os) Rises
    (λ le. let below = before_is_low oid o le in ((below, lower oid o os below up.0), up))
    (λ gt. (low_placed o oid os (behind_is_high oid o gt) up.0, rest))

pub rises_by_number : (oids : List ℕ) → Rises (by_number (λ o. pos o) oids)
unfolding by_number
rises_by_number [] = tt
rises_by_number (oid ∷ oids) = rises_placed oid (by_number (λ o. pos o) oids) (rises_by_number oids)

-- ---- oids that tie

-- whether an oid is this one
abbrev pub is_one : ℕ → ℕ → Bool
is_one = ties (λ a b. is_lt (nat_cmp a b))

neither : (o : Ordering) → (not (is_lt o) && not (is_lt (ordering_reverse o))) ≡ true → o ≡ Equal
neither Less h = absurd (true≢false (sym h))
neither Equal h = refl
neither Greater h = absurd (true≢false (sym h))

pub is_itself : (a b : ℕ) → is_one a b ≡ true → a ≡ b
is_itself a b tied =
    nat_cmp-IsAntisymmetric a b (neither (nat_cmp a b) (sym (ap (λ o. not (is_lt (nat_cmp a b)) && not (is_lt o)) (nat_cmp_total.antisymm b a)) ∙ tied))

tied_with_itself : (a : ℕ) → is_one a a ≡ true
tied_with_itself a = by (nat_cmp a a) (nat_cmp_total.antisymm a a)
  where
    by : (o : Ordering) → o ≡ ordering_reverse o → (not (is_lt o) && not (is_lt o)) ≡ true
    by Less is = absurd cc
    by Equal is = refl
    by Greater is = absurd cc

-- those that are one oid stay in a list that an oid is put into
kept_placed : (z oid : ℕ) (oids : List ℕ) → filter (is_one z) (placed (λ o. pos o) oid oids) ≡ filter (is_one z) (oid ∷ oids)
unfolding placed
kept_placed z oid [] = refl
kept_placed z oid (o ∷ os) =
    let rest = kept_placed z oid os in
    cond_both (stands_before oid o) (oid ∷ o ∷ os) (o ∷ placed (λ o. pos o) oid os) (λ l. filter (is_one z) l ≡ filter (is_one z) (oid ∷ o ∷ os))
    (λ le. refl)
    (λ gt. ap (λ (l : List ℕ). cond (is_one z o) (o ∷ l) l) rest ∙ past (is_one z o) (is_one z oid) refl refl)
  where
    past : (b c : Bool) → is_one z o ≡ b → is_one z oid ≡ c
        → cond {A = List ℕ} (is_one z o) (o ∷ cond (is_one z oid) (oid ∷ filter (is_one z) os) (filter (is_one z) os)) (cond (is_one z oid) (oid ∷ filter (is_one z) os) (filter (is_one z) os))
        ≡ cond {A = List ℕ} (is_one z oid) (oid ∷ cond (is_one z o) (o ∷ filter (is_one z) os) (filter (is_one z) os)) (cond (is_one z o) (o ∷ filter (is_one z) os) (filter (is_one z) os))
    past true true of_o of_oid =
        let same : o ≡ oid = sym (is_itself z o of_o) ∙ is_itself z oid of_oid in
        rw (of_o, of_oid) (rw same refl)
    past true false of_o of_oid = rw (of_o, of_oid) refl
    past false c of_o of_oid = rw of_o refl

pub kept_by_number : (z : ℕ) (oids : List ℕ) → filter (is_one z) (by_number (λ o. pos o) oids) ≡ filter (is_one z) oids
unfolding by_number
kept_by_number z [] = refl
kept_by_number z (oid ∷ oids) =
    kept_placed z oid (by_number (λ o. pos o) oids) ∙ ap (λ (l : List ℕ). cond (is_one z oid) (oid ∷ l) l) (kept_by_number z oids)

-- ---- one list

-- an oid that stands in a list is no less than one that is low
found_is_high : (a z : ℕ) (oids more : List ℕ) → Low a oids → filter (is_one z) oids ≡ z ∷ more → a ≤ z
found_is_high a z [] more low is = absurd cc
found_is_high a z (o ∷ os) more low is = by (found_is_high a z os more low.1) (is_one z o) refl
  where
    opened : (b : Bool) → is_one z o ≡ b → cond {A = List ℕ} b (o ∷ filter (is_one z) os) (filter (is_one z) os) ≡ z ∷ more
    opened b here = sym (ap (λ (c : Bool). cond {A = List ℕ} c (o ∷ filter (is_one z) os) (filter (is_one z) os)) here) ∙ is

    by : (filter (is_one z) os ≡ z ∷ more → a ≤ z) → (b : Bool) → is_one z o ≡ b → a ≤ z
    by again true here = subst (λ (n : ℕ). a ≤ n) (sym (is_itself z o here)) low.0
    by again false here = again (opened false here)

kept_first : (z : ℕ) (oids : List ℕ) → filter (is_one z) (z ∷ oids) ≡ z ∷ filter (is_one z) oids
kept_first z oids = ap (λ (b : Bool). cond {A = List ℕ} b (z ∷ filter (is_one z) oids) (filter (is_one z) oids)) (tied_with_itself z)

behind_first : (z x : ℕ) (xs ys : List ℕ) → filter (is_one z) (x ∷ xs) ≡ filter (is_one z) (x ∷ ys) → filter (is_one z) xs ≡ filter (is_one z) ys
behind_first z x xs ys is = by (is_one z x) is
  where
    by : (b : Bool) → cond {A = List ℕ} b (x ∷ filter (is_one z) xs) (filter (is_one z) xs) ≡ cond {A = List ℕ} b (x ∷ filter (is_one z) ys) (filter (is_one z) ys) → filter (is_one z) xs ≡ filter (is_one z) ys
    by true same = cc
    by false same = same

-- rising lists of the same oids are one
pub one_list : (xs ys : List ℕ) → Rises xs → Rises ys → ((z : ℕ) → filter (is_one z) xs ≡ filter (is_one z) ys) → xs ≡ ys
one_list [] [] up_x up_y alike = refl
one_list [] (y ∷ ys) up_x up_y alike = let none : [] ≡ y ∷ filter (is_one y) ys = alike y ∙ kept_first y ys in absurd cc
one_list (x ∷ xs) [] up_x up_y alike = let none : [] ≡ x ∷ filter (is_one x) xs = sym (alike x) ∙ kept_first x xs in absurd cc
one_list (x ∷ xs) (y ∷ ys) up_x up_y alike =
    let below_y : x ≤ y = found_is_high x y (x ∷ xs) (filter (is_one y) ys) (omega arith, up_x.0) (alike y ∙ kept_first y ys) in
    let below_x : y ≤ x = found_is_high y x (y ∷ ys) (filter (is_one x) xs) (omega arith, up_y.0) (sym (alike x) ∙ kept_first x xs) in
    let same : x ≡ y = omega (arith, below_y, below_x) in
    let rest : xs ≡ ys = one_list xs ys up_x.1 up_y.1 (λ z. behind_first z x xs ys (alike z ∙ ap (λ (h : ℕ). filter (is_one z) (h ∷ ys)) (sym same))) in
    ap (λ (h : ℕ). h ∷ xs) same ∙ ap (λ (l : List ℕ). y ∷ l) rest

-- lists in which each oid stands as often are one by number
pub one_by_number : (xs ys : List ℕ) → ((z : ℕ) → filter (is_one z) xs ≡ filter (is_one z) ys) → by_number (λ o. pos o) xs ≡ by_number (λ o. pos o) ys
one_by_number xs ys alike =
    one_list (by_number (λ o. pos o) xs) (by_number (λ o. pos o) ys) (rises_by_number xs) (rises_by_number ys)
    (λ z. kept_by_number z xs ∙ alike z ∙ sym (kept_by_number z ys))

-- ---- what holds of each

each_placed : (P : ℕ → Type 0) (oid : ℕ) (oids : List ℕ) → P oid → AllByRecursion P oids → AllByRecursion P (placed (λ o. pos o) oid oids)
unfolding placed
each_placed P oid [] one all = (one, tt)
each_placed P oid (o ∷ os) one all =
    let rest = each_placed P oid os one all.1 in
    cond_both (stands_before oid o) (oid ∷ o ∷ os) (o ∷ placed (λ o. pos o) oid os) (AllByRecursion P) (λ le. (one, all)) (λ gt. (all.0, rest))

pub each_by_number : (P : ℕ → Type 0) (oids : List ℕ) → AllByRecursion P oids → AllByRecursion P (by_number (λ o. pos o) oids)
unfolding by_number
each_by_number P [] all = tt
each_by_number P (oid ∷ oids) all = each_placed P oid (by_number (λ o. pos o) oids) all.0 (each_by_number P oids all.1)
