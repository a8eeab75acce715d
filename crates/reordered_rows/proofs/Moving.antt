-- Rows in another order: where each row stood, and that no two stood at one place.
use Rattle.std.proofs.Common.{◌≡◌, ◌⊎◌, inl, inr, ℕ, zero, suc, ◌<◌, Bool, true, false, cond, List, [], ◌∷◌, map, length, Option, Some, None, refl, sym, ap, subst, ◌∙◌, arith}
use Rattle.std.proofs.Math.ListN.{get_or, set}
use Rattle.std.proofs.lemmas.List.{length-set, get_or-set_same, get_or-set_other}
use Rattle.std.proofs.lemmas.List.Edits.{length-swap, swap_is}
use Rattle.std.proofs.lemmas.List.Sorted.{length_permutation}
use Rattle.std.proofs.lemmas.Option.{slice_get-get_or, slice_get_within}
use Rattle.std.specs.Cmp.{IsTotalOrder}
use Rattle.std.specs.declared.cmp.Ordering.{Ordering}
use Rattle.std.specs.declared.cmp.Ordering.TheVariants.{Less, Equal, Greater}
use Rattle.std.specs.Ordering.{nat_cmp, eq_by_cmp, is_eq, ordering_reverse}
use Rattle.std.specs.List.{slice_get, swap, filter, find}
use Rattle.std.specs.List.Sorted.{IsPermutation, SwapsInRange, apply_swaps}
use Rattle.cat_names.specs.Lookups.{same_oid}
use Rattle.cat_book.specs.Meets.{AreDistinct}
use Rattle.cat_sound.proofs.Lists.{IsIn}
use Rattle.named_tables.specs.Standing.{IsAmong, AreRowsOf}
use Rattle.named_tables.proofs.Rows.{in_place, among_in}
use Rattle.named_objects.proofs.Found.{found_in, three_ways}
use Rattle.sound_rows.proofs.Paths.{one_of_oid}
use Rattle.sound_rows.proofs.Roles.{same_oid-equal}

pub record Moved {R : Type 0} (rows later : List R) : Type 0 where
  pub from : ℕ → ℕ
  pub at : (k : ℕ) (r : R) → slice_get later k ≡ Some r → slice_get rows (from k) ≡ Some r
  pub apart : (k l : ℕ) (r q : R) → slice_get later k ≡ Some r → slice_get later l ≡ Some q → from k ≡ from l → k ≡ l
  pub to : (k : ℕ) (r : R) → slice_get rows k ≡ Some r → IsAmong later r

same_thing : {T : Type 0} (t u : T) → Some t ≡ Some u → t ≡ u
same_thing t u e = cc

-- ---- one exchange

abbrev Either : ℕ → ℕ → Type 0
Either k i = (k ≡ i) ⊎ (k ≡ i → ⊥)

which : (k i : ℕ) → Either k i
which k i = by (three_ways k i)
  where
    by : (k < i) ⊎ ((i < k) ⊎ (k ≡ i)) → Either k i
    by (inl below) = inr (λ e. omega arith)
    by (inr (inl above)) = inr (λ e. omega arith)
    by (inr (inr e)) = inl e

-- the place that is exchanged with a place, of two
abbrev turned : (i j k : ℕ) → Either k i → Either k j → ℕ
turned i j k (inl e) other = j
turned i j k (inr n) (inl e) = i
turned i j k (inr n) (inr m) = k

turned_within : (n i j k : ℕ) (x : Either k i) (y : Either k j) → i < n → j < n → k < n → turned i j k x y < n
turned_within n i j k (inl e) y p q h = q
turned_within n i j k (inr m) (inl e) p q h = p
turned_within n i j k (inr m) (inr other) p q h = h

turned_apart : (i j k l : ℕ) (x : Either k i) (y : Either k j) (z : Either l i) (w : Either l j) → turned i j k x y ≡ turned i j l z w → k ≡ l
turned_apart i j k l (inl e) y (inl f) w same = e ∙ sym f
turned_apart i j k l (inl e) y (inr n) (inl f) same = absurd (n (f ∙ same))
turned_apart i j k l (inl e) y (inr n) (inr m) same = absurd (m (sym same))
turned_apart i j k l (inr n) (inl e) (inl f) w same = absurd (n (e ∙ sym same))
turned_apart i j k l (inr n) (inl e) (inr o) (inl f) same = e ∙ sym f
turned_apart i j k l (inr n) (inl e) (inr o) (inr m) same = absurd (o (sym same))
turned_apart i j k l (inr n) (inr m) (inl f) w same = absurd (m same)
turned_apart i j k l (inr n) (inr m) (inr o) (inl f) same = absurd (n same)
turned_apart i j k l (inr n) (inr m) (inr o) (inr other) same = same

module _ {R : Type 0} (rows : List R) (i j : ℕ) (p : i < length rows) (q : j < length rows) where
  module _ (d : R) where
    abbrev first : List R
    first = set rows i (get_or rows j d)

    at_second : get_or (swap rows i j) j d ≡ get_or rows i d
    at_second =
        let within : j < length first = omega (arith, length-set rows i (get_or rows j d)) in
        ap (λ (rs : List R). get_or rs j d) (sym (swap_is rows i j d p q)) ∙ get_or-set_same first j (get_or rows i d) d within

    but_second : (m : ℕ) → (m ≡ j → ⊥) → get_or (swap rows i j) m d ≡ get_or first m d
    but_second m other = ap (λ (rs : List R). get_or rs m d) (sym (swap_is rows i j d p q)) ∙ get_or-set_other first j m (get_or rows i d) d other

    at_first : (i ≡ j → ⊥) → get_or (swap rows i j) i d ≡ get_or rows j d
    at_first other = but_second i other ∙ get_or-set_same rows i (get_or rows j d) d p

    stood : (k : ℕ) (x : Either k i) (y : Either k j) → get_or (swap rows i j) k d ≡ get_or rows (turned i j k x y) d
    stood k (inl e) (inl f) = ap (λ (m : ℕ). get_or (swap rows i j) m d) f ∙ at_second ∙ ap (λ (m : ℕ). get_or rows m d) (sym e ∙ f)
    stood k (inl e) (inr m) = ap (λ (n : ℕ). get_or (swap rows i j) n d) e ∙ at_first (λ h. m (e ∙ h))
    stood k (inr n) (inl f) = ap (λ (m : ℕ). get_or (swap rows i j) m d) f ∙ at_second
    stood k (inr n) (inr m) = but_second k m ∙ get_or-set_other rows i k (get_or rows j d) d n

    stands : (k : ℕ) (x : Either k i) (y : Either k j) → get_or (swap rows i j) (turned i j k x y) d ≡ get_or rows k d
    stands k (inl e) y = at_second ∙ ap (λ (m : ℕ). get_or rows m d) (sym e)
    stands k (inr n) (inl f) = at_first (λ h. n (f ∙ sym h)) ∙ ap (λ (m : ℕ). get_or rows m d) (sym f)
    stands k (inr n) (inr m) = but_second k m ∙ get_or-set_other rows i k (get_or rows j d) d n

  read : (xs : List R) (k : ℕ) (r : R) → slice_get xs k ≡ Some r → get_or xs k r ≡ r
  read xs k r at = same_thing (get_or xs k r) r (sym (slice_get-get_or xs k r (slice_get_within xs k r at)) ∙ at)

  exchanged : Moved rows (swap rows i j)
  exchanged = record {
    from = λ k. turned i j k (which k i) (which k j);
    at = λ k r at.
        let here : k < length rows = omega (arith, length-swap rows i j, slice_get_within (swap rows i j) k r at) in
        slice_get-get_or rows (turned i j k (which k i) (which k j)) r (turned_within (length rows) i j k (which k i) (which k j) p q here)
        ∙ ap Some (sym (stood r k (which k i) (which k j)) ∙ read (swap rows i j) k r at);
    apart = λ k l r s at_k at_l same. turned_apart i j k l (which k i) (which k j) (which l i) (which l j) same;
    to = λ k r at.
        let here : k < length rows = slice_get_within rows k r at in
        let there : turned i j k (which k i) (which k j) < length (swap rows i j) = omega (arith, length-swap rows i j, turned_within (length rows) i j k (which k i) (which k j) p q here) in (
          turned i j k (which k i) (which k j),
          slice_get-get_or (swap rows i j) (turned i j k (which k i) (which k j)) r there ∙ ap Some (stands r k (which k i) (which k j) ∙ read rows k r at),
        );
  }

-- ---- many

unmoved : {R : Type 0} (rows : List R) → Moved rows rows
unmoved rows = record { from = λ k. k; at = λ k r e. e; apart = λ k l r q a b same. same; to = λ k r e. (k, e) }

moved_on : {R : Type 0} (rows next last : List R) → Moved rows next → Moved next last → Moved rows last
moved_on rows next last m n = record {
  from = λ k. m.from (n.from k);
  at = λ k r e. m.at (n.from k) r (n.at k r e);
  apart = λ k l r q at_k at_l same. n.apart k l r q at_k at_l (m.apart (n.from k) (n.from l) r q (n.at k r at_k) (n.at l q at_l) same);
  to = λ k r e. let x = m.to k r e in n.to x.0 r x.1;
}

all_exchanged : {R : Type 0} (rows : List R) (moves : List (ℕ × ℕ)) → SwapsInRange (length rows) moves → Moved rows (apply_swaps rows moves)
all_exchanged rows [] below = unmoved rows
all_exchanged rows (m ∷ moves) below =
    let before = apply_swaps rows moves in
    let long : length before ≡ length rows = length_permutation rows before (record { moves = moves; below = below.2; is = refl }) in
    moved_on rows before (swap before m.0 m.1) (all_exchanged rows moves below.2)
    (exchanged before m.0 m.1 (omega (arith, long, below.0)) (omega (arith, long, below.1)))

pub moved : {R : Type 0} (rows later : List R) → IsPermutation rows later → Moved rows later
moved rows later p = subst (Moved rows) (sym p.is) (all_exchanged rows p.moves p.below)

-- ---- rows by their cells

module _ {R C : Type 0} (cells : R → C) (one : (a b : R) → cells a ≡ cells b → a ≡ b) where
  pulled : (xs : List R) (k : ℕ) (c : C) → slice_get (map cells xs) k ≡ Some c → (a : R) × (slice_get xs k ≡ Some a) × (cells a ≡ c)
  pulled [] k c at = absurd cc
  pulled (x ∷ xs) zero c at = (x, refl, same_thing (cells x) c at)
  pulled (x ∷ xs) (suc k) c at = pulled xs k c at

  pushed : (xs : List R) (k : ℕ) (a : R) → slice_get xs k ≡ Some a → slice_get (map cells xs) k ≡ Some (cells a)
  pushed [] k a at = absurd cc
  pushed (x ∷ xs) zero a at = ap (λ (y : R). Some (cells y)) (same_thing x a at)
  pushed (x ∷ xs) (suc k) a at = pushed xs k a at

  -- what the cells at a place are of
  row_at : (xs : List R) (k : ℕ) (r : R) → slice_get (map cells xs) k ≡ Some (cells r) → slice_get xs k ≡ Some r
  row_at xs k r at = let it = pulled xs k (cells r) at in it.1 ∙ ap Some (one it.0 r it.2)

  pub rows_moved : (rows later : List R) → IsPermutation (map cells rows) (map cells later) → Moved rows later
  rows_moved rows later p =
      let m = moved (map cells rows) (map cells later) p in
      record {
        from = m.from;
        at = λ k r e. row_at rows (m.from k) r (m.at k (cells r) (pushed later k r e));
        apart = λ k l r q at_k at_l same. m.apart k l (cells r) (cells q) (pushed later k r at_k) (pushed later l q at_l) same;
        to = λ k r e. let x = m.to k (cells r) (pushed rows k r e) in (x.0, row_at later x.0 r x.1);
      }

-- ---- some of the rows

module _ {R : Type 0} (p : R → Bool) where
  kept_stood : (xs : List R) (i : ℕ) (a : R) → slice_get (filter p xs) i ≡ Some a → (k : ℕ) × (slice_get xs k ≡ Some a) × (p a ≡ true)
  kept_stood [] i a at = absurd cc
  kept_stood (x ∷ xs) i a at = by (p x) refl (λ j e. kept_stood xs j a e) i at
    where
      behind : (k : ℕ) × (slice_get xs k ≡ Some a) × (p a ≡ true) → (k : ℕ) × (slice_get (x ∷ xs) k ≡ Some a) × (p a ≡ true)
      behind it = (suc it.0, it.1, it.2)

      by : (b : Bool) → p x ≡ b → ((j : ℕ) → slice_get (filter p xs) j ≡ Some a → (k : ℕ) × (slice_get xs k ≡ Some a) × (p a ≡ true)) → (j : ℕ) → slice_get (cond {A = List R} b (x ∷ filter p xs) (filter p xs)) j ≡ Some a → (k : ℕ) × (slice_get (x ∷ xs) k ≡ Some a) × (p a ≡ true)
      by false is later j e = behind (later j e)
      by true is later zero e = (zero, e, subst (λ (y : R). p y ≡ true) (same_thing x a e) is)
      by true is later (suc j) e = behind (later j e)

  kept_stands : (xs : List R) (k : ℕ) (a : R) → slice_get xs k ≡ Some a → p a ≡ true → IsAmong (filter p xs) a
  kept_stands [] k a at passes = absurd cc
  kept_stands (x ∷ xs) zero a at passes =
      let here : p x ≡ true = ap p (same_thing x a at) ∙ passes in
      (zero, ap (λ (b : Bool). slice_get (cond {A = List R} b (x ∷ filter p xs) (filter p xs)) zero) here ∙ at)
  kept_stands (x ∷ xs) (suc k) a at passes = by (p x) (kept_stands xs k a at passes)
    where
      by : (b : Bool) → IsAmong (filter p xs) a → IsAmong (cond {A = List R} b (x ∷ filter p xs) (filter p xs)) a
      by false more = more
      by true more = (suc more.0, more.1)

  -- two that are kept stood one behind the other
  pub record TwoAt (xs : List R) (a b : R) : Type 0 where
    pub first : ℕ
    pub second : ℕ
    pub below : first < second
    pub at_first : slice_get xs first ≡ Some a
    pub at_second : slice_get xs second ≡ Some b

  two_stood : (xs : List R) (i j : ℕ) (a b : R) → i < j → slice_get (filter p xs) i ≡ Some a → slice_get (filter p xs) j ≡ Some b → TwoAt xs a b
  two_stood [] i j a b below at_i at_j = absurd cc
  two_stood (x ∷ xs) i j a b below at_i at_j = by (p x) (λ k l less e f. two_stood xs k l a b less e f) i j below at_i at_j
    where
      behind : TwoAt xs a b → TwoAt (x ∷ xs) a b
      behind it =
          let less : it.first < it.second = it.below in
          record { first = suc it.first; second = suc it.second; below = omega arith; at_first = it.at_first; at_second = it.at_second }

      by : (c : Bool) → ((k l : ℕ) → k < l → slice_get (filter p xs) k ≡ Some a → slice_get (filter p xs) l ≡ Some b → TwoAt xs a b) → (i j : ℕ) → i < j → slice_get (cond {A = List R} c (x ∷ filter p xs) (filter p xs)) i ≡ Some a → slice_get (cond {A = List R} c (x ∷ filter p xs) (filter p xs)) j ≡ Some b → TwoAt (x ∷ xs) a b
      by false later i j less e f = behind (later i j less e f)
      by true later zero zero less e f = absurd (omega arith)
      by true later zero (suc j) less e f =
          let it = kept_stood xs j b f in
          record { first = zero; second = suc it.0; below = omega arith; at_first = e; at_second = it.1 }
      by true later (suc i) zero less e f = absurd (omega arith)
      by true later (suc i) (suc j) less e f = behind (later i j (omega arith) e f)

  two_stand : (xs : List R) (k l : ℕ) (a b : R) → k < l → slice_get xs k ≡ Some a → slice_get xs l ≡ Some b → p a ≡ true → p b ≡ true → TwoAt (filter p xs) a b
  two_stand [] k l a b below at_k at_l pass other = absurd cc
  two_stand (x ∷ xs) zero zero a b below at_k at_l pass other = absurd (omega arith)
  two_stand (x ∷ xs) zero (suc l) a b below at_k at_l pass other =
      let here : p x ≡ true = ap p (same_thing x a at_k) ∙ pass in
      let more = kept_stands xs l b at_l other in
      record {
        first = zero;
        second = suc more.0;
        below = omega arith;
        at_first = ap (λ (c : Bool). slice_get (cond {A = List R} c (x ∷ filter p xs) (filter p xs)) zero) here ∙ at_k;
        at_second = ap (λ (c : Bool). slice_get (cond {A = List R} c (x ∷ filter p xs) (filter p xs)) (suc more.0)) here ∙ more.1;
      }
  two_stand (x ∷ xs) (suc k) zero a b below at_k at_l pass other = absurd (omega arith)
  two_stand (x ∷ xs) (suc k) (suc l) a b below at_k at_l pass other = by (p x) (two_stand xs k l a b (omega arith) at_k at_l pass other)
    where
      by : (c : Bool) → TwoAt (filter p xs) a b → TwoAt (cond {A = List R} c (x ∷ filter p xs) (filter p xs)) a b
      by false it = it
      by true it =
          let less : it.first < it.second = it.below in
          record { first = suc it.first; second = suc it.second; below = omega arith; at_first = it.at_first; at_second = it.at_second }

-- ---- rows by their oids

find_in : {A : Type 0} (test : A → Bool) (xs : List A) (x : A) → find test xs ≡ Some x → IsIn x xs × (test x ≡ true)
find_in test [] x e = absurd cc
find_in {A} test (y ∷ ys) x e = by (test y) refl (find_in test ys x) e
  where
    by : (b : Bool) → test y ≡ b → (find test ys ≡ Some x → IsIn x ys × (test x ≡ true)) → cond {A = Option A} b (Some y) (find test ys) ≡ Some x → IsIn x (y ∷ ys) × (test x ≡ true)
    by true is later h = let same : y ≡ x = same_thing y x h in (inl same, subst (λ (z : A). test z ≡ true) same is)
    by false is later h = let found = later h in (inr found.0, found.1)

find_none : {A : Type 0} (test : A → Bool) (xs : List A) → find test xs ≡ None → (x : A) → IsIn x xs → test x ≡ true → ⊥
find_none test [] e x among passes = elim among [ ]
find_none {A} test (y ∷ ys) e x among passes = by (test y) refl (λ h later. find_none test ys h x later passes) e among
  where
    by : (b : Bool) → test y ≡ b → (find test ys ≡ None → IsIn x ys → ⊥) → cond {A = Option A} b (Some y) (find test ys) ≡ None → IsIn x (y ∷ ys) → ⊥
    by true is behind h here = cc
    by false is behind h (inl same) = let wrong : false ≡ true = sym is ∙ ap test same ∙ passes in cc
    by false is behind h (inr later) = behind h later

module _ {R : Type 0} (oid : R → ℕ) (rows later : List R) (m : Moved rows later) (distinct : AreDistinct nat_cmp (λ (r : R). Some (oid r)) rows) where
  stood_among : (r : R) → IsIn r later → (k : ℕ) × (slice_get rows k ≡ Some r)
  stood_among r among = let place = in_place later r among in (m.from place.0, m.at place.0 r place.1)

  -- the row of an oid is the one that it was
  pub found_same : (n : ℕ) → find (λ (r : R). same_oid n (oid r)) later ≡ find (λ (r : R). same_oid n (oid r)) rows
  found_same n = by (find (λ (r : R). same_oid n (oid r)) rows) refl
    where
      none : find (λ (r : R). same_oid n (oid r)) rows ≡ None → (o : Option R) → find (λ (r : R). same_oid n (oid r)) later ≡ o → find (λ (r : R). same_oid n (oid r)) later ≡ None
      none is None at = at
      none is (Some row) at =
          let found = find_in (λ (r : R). same_oid n (oid r)) later row at in
          absurd (find_none (λ (r : R). same_oid n (oid r)) rows is row (among_in rows row (stood_among row found.0)) found.1)

      by : (o : Option R) → find (λ (r : R). same_oid n (oid r)) rows ≡ o → find (λ (r : R). same_oid n (oid r)) later ≡ o
      by None is = none is (find (λ (r : R). same_oid n (oid r)) later) refl
      by (Some row) is =
          let found = find_in (λ (r : R). same_oid n (oid r)) rows row is in
          let at = in_place rows row found.0 in
          let stands = m.to at.0 row at.1 in
          found_in (λ (r : R). same_oid n (oid r)) later row (among_in later row stands) found.1
          (λ r among passes. one_of_oid oid rows distinct r row (stood_among r among) at (sym (same_oid-equal n (oid r) passes) ∙ same_oid-equal n (oid row) found.1))

-- ---- keys of some of the rows

module _ {R K : Type 0} (cmp : K → K → Ordering) (total : IsTotalOrder cmp) (key : R → Option K) (p q : R → Bool) (same : (r : R) → q r ≡ p r) where
  pub keys_moved : (rows later : List R) → Moved rows later → AreDistinct cmp key (filter p rows) → AreDistinct cmp key (filter q later)
  keys_moved rows later m distinct i j a b k l below at_i at_j is_k is_l =
      let two = two_stood q later i j a b below at_i at_j in
      let pass_a : p a ≡ true = sym (same a) ∙ (kept_stood q later i a at_i).2 in
      let pass_b : p b ≡ true = sym (same b) ∙ (kept_stood q later j b at_j).2 in
      apart two.first two.second two.below two.at_first two.at_second pass_a pass_b (three_ways (m.from two.first) (m.from two.second))
    where
      turned_apart : eq_by_cmp cmp k l ≡ false → eq_by_cmp cmp l k ≡ false
      turned_apart e = by (cmp k l) refl e
        where
          by : (o : Ordering) → cmp k l ≡ o → is_eq o ≡ false → eq_by_cmp cmp l k ≡ false
          by Less is h = ap is_eq (total.antisymm l k ∙ ap ordering_reverse is)
          by Equal is h = absurd cc
          by Greater is h = ap is_eq (total.antisymm l k ∙ ap ordering_reverse is)

      apart : (x y : ℕ) → x < y → slice_get later x ≡ Some a → slice_get later y ≡ Some b → p a ≡ true → p b ≡ true → (m.from x < m.from y) ⊎ ((m.from y < m.from x) ⊎ (m.from x ≡ m.from y)) → eq_by_cmp cmp l k ≡ false
      apart x y less at_x at_y pass_a pass_b (inl up) =
          let two = two_stand p rows (m.from x) (m.from y) a b up (m.at x a at_x) (m.at y b at_y) pass_a pass_b in
          distinct two.first two.second a b k l two.below two.at_first two.at_second is_k is_l
      apart x y less at_x at_y pass_a pass_b (inr (inl down)) =
          let two = two_stand p rows (m.from y) (m.from x) b a down (m.at y b at_y) (m.at x a at_x) pass_b pass_a in
          turned_apart (distinct two.first two.second b a l k two.below two.at_first two.at_second is_l is_k)
      apart x y less at_x at_y pass_a pass_b (inr (inr e)) =
          let one : x ≡ y = m.apart x y a b at_x at_y e in
          absurd (omega arith)

-- ---- rows of things

module _ {T R : Type 0} (There : T → Type 0) (Says : T → R → Type 0) where
  -- two places at which rows say one thing are one
  one_place : (rows : List R) → AreRowsOf There Says rows → (t : T) (i j : ℕ) (a b : R) → slice_get rows i ≡ Some a → slice_get rows j ≡ Some b → Says t a → Says t b → i ≡ j
  one_place rows are t i j a b at_i at_j says_a says_b = by (three_ways i j)
    where
      by : (i < j) ⊎ ((j < i) ⊎ (i ≡ j)) → i ≡ j
      by (inl below) = absurd (are.once i j a b t below at_i at_j says_a says_b)
      by (inr (inl below)) = absurd (are.once j i b a t below at_j at_i says_b says_a)
      by (inr (inr e)) = e

  pub stand_moved : (rows later : List R) → Moved rows later → AreRowsOf There Says rows → AreRowsOf There Says later
  stand_moved rows later m are = record {
    each = λ t there. let at = are.each t there in (at.0, m.to at.1.0 at.0 at.1.1, at.2);
    only = λ row among. are.only row (m.from among.0, m.at among.0 row among.1);
    once = λ i j a b t below at_i at_j says_a says_b.
        let same : i ≡ j = m.apart i j a b at_i at_j (one_place rows are t (m.from i) (m.from j) a b (m.at i a at_i) (m.at j b at_j) says_a says_b) in
        omega arith;
  }

  module _ (p q : R → Bool) (same : (r : R) → q r ≡ p r) where
    pub kept_moved : (rows later : List R) → Moved rows later → AreRowsOf There Says (filter p rows) → AreRowsOf There Says (filter q later)
    kept_moved rows later m are = record {
      each = λ t there.
          let at = are.each t there in
          let stood = kept_stood p rows at.1.0 at.0 at.1.1 in
          let place = m.to stood.0 at.0 stood.1 in
          (at.0, kept_stands q later place.0 at.0 place.1 (same at.0 ∙ stood.2), at.2);
      only = λ row among.
          let stood = kept_stood q later among.0 row among.1 in
          are.only row (kept_stands p rows (m.from stood.0) row (m.at stood.0 row stood.1) (sym (same row) ∙ stood.2));
      once = λ i j a b t below at_i at_j says_a says_b.
          let two = two_stood q later i j a b below at_i at_j in
          let pass_a : p a ≡ true = sym (same a) ∙ (kept_stood q later i a at_i).2 in
          let pass_b : p b ≡ true = sym (same b) ∙ (kept_stood q later j b at_j).2 in
          apart t two.first two.second a b two.below two.at_first two.at_second pass_a pass_b says_a says_b;
    }
      where
        twice : (t : T) (a b : R) → TwoAt p (filter p rows) a b → Says t a → Says t b → ⊥
        twice t a b two says_a says_b = are.once two.first two.second a b t two.below two.at_first two.at_second says_a says_b

        apart : (t : T) (k l : ℕ) (a b : R) → k < l → slice_get later k ≡ Some a → slice_get later l ≡ Some b → p a ≡ true → p b ≡ true → Says t a → Says t b → ⊥
        apart t k l a b below at_k at_l pass_a pass_b says_a says_b = by (three_ways (m.from k) (m.from l))
          where
            by : (m.from k < m.from l) ⊎ ((m.from l < m.from k) ⊎ (m.from k ≡ m.from l)) → ⊥
            by (inl less) = twice t a b (two_stand p rows (m.from k) (m.from l) a b less (m.at k a at_k) (m.at l b at_l) pass_a pass_b) says_a says_b
            by (inr (inl less)) = twice t b a (two_stand p rows (m.from l) (m.from k) b a less (m.at l b at_l) (m.at k a at_k) pass_b pass_a) says_b says_a
            by (inr (inr e)) = let one : k ≡ l = m.apart k l a b at_k at_l e in omega arith
