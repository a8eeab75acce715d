-- Where the keys of an oid, and a key, stand among the keys in order.
use Rattle.std.proofs.Common.{◌≡◌, ℕ, ◌+◌, ◌-◌, ◌<◌, ◌≤◌, ℤ, pos, Bool, true, false, List, map, length, get_or, take, drop, Some, None, inl, inr, refl, sym, ap, subst, ◌∙◌, arith}
use Rattle.std.specs.Prelude.{not, ◌&&◌, nat_eq}
use Rattle.std.specs.List.{AllWithin, filter, find, slice_get, slice_range, position_or_len}
use Rattle.std.specs.List.Sorted.{IsSortedBy, IsNonDecreasingBy, IsPartitionedBy, ties}
use Rattle.std.specs.Option.{option_map}
use Rattle.std.specs.Cmp.{IsTotalOrder, IsStrictWeakOrder, unsigned_tied}
use Rattle.std.specs.declared.cmp.Ordering.{Ordering}
use Rattle.std.specs.declared.cmp.Ordering.TheVariants.{Less, Equal, Greater}
use Rattle.std.specs.Ordering.{nat_cmp, int_cmp, int_eq, is_eq, is_lt, is_le, ordering_then, ordering_reverse}
use Rattle.std.proofs.lemmas.Bool.{true≢false, both_ways, cases_lt, ltb-true, ltb-false, leb-true, leb-false, eq-eqb, ne_eqb, true_from_ne_false, false_from_ne_true}
use Rattle.std.proofs.lemmas.Cmp.{nat_cmp_total, int_cmp_total, on_total, then_total, nat_eq_equiv, int_eq_equiv}
use Rattle.std.proofs.lemmas.List.{get_or-map, length-map, take-map, drop-map}
use Rattle.std.proofs.lemmas.List.Elements.{filter_agree}
use Rattle.std.proofs.lemmas.List.Folds.{find_at}
use Rattle.std.proofs.lemmas.List.Sums.{position_or_len_is}
use Rattle.std.proofs.lemmas.List.Sorted.{ranks_by, sorted_far, IsNonDecreasingBy-from_sort}
use Rattle.std.proofs.lemmas.Option.{slice_get-map, slice_get_past, slice_get_within, slice_get-get_or, get_or_from_slice_get}
use Rattle.oid_groups.specs.Groups.{Key, numbered_keys, same_oid, group_of, first_place}
use Rattle.oid_groups.specs.Orders.{by_number}
use Rattle.oid_groups.specs.Sorted.{key_cmp, IsInOrder, AreSorted, IsOidStart, IsOidEnd, IsKeyStart}
use Rattle.oid_groups.proofs.OneOrder.{each_passes, rises_from_sorted, rises_kept, rises_as, one_list}
use Rattle.oid_groups.proofs.ByNumber.{lower, OneNumber, each_by_number, rises_by_number, kept_by_number}
use Rattle.oid_groups.proofs.Found.{find_kept, filter-filter, kept_run, find-numbered, position_or_len-map}

-- ---- orders

abbrev Entry : Type 0
Entry = ℕ × Key

abbrev pub key_lt : Key → Key → Bool
key_lt a b = is_lt (key_cmp a b)

abbrev entry_lt : Entry → Entry → Bool
entry_lt a b = is_lt (key_cmp a.1 b.1)

key_total : IsTotalOrder key_cmp
key_total = then_total (on_total (λ (k : Key). k.0) nat_cmp_total) (on_total (λ (k : Key). k.1) int_cmp_total)

keys_are_ordered : IsStrictWeakOrder key_lt
keys_are_ordered = ranks_by key_total (λ (k : Key). k)

entries_are_ordered : IsStrictWeakOrder entry_lt
entries_are_ordered = ranks_by key_total (λ (e : Entry). e.1)

first_not_less : (a b : Ordering) → is_lt (ordering_then a b) ≡ false → is_lt a ≡ false
first_not_less Less b h = h
first_not_less Equal b h = refl
first_not_less Greater b h = refl

both_not_less : (a b : Ordering) → is_lt a ≡ false → is_lt b ≡ false → is_lt (ordering_then a b) ≡ false
both_not_less Less b h k = h
both_not_less Equal b h k = k
both_not_less Greater b h k = refl

neither : (o : Ordering) → (not (is_lt o) && not (is_lt (ordering_reverse o))) ≡ is_eq o
neither Less = refl
neither Equal = refl
neither Greater = refl

equal_from : (o : Ordering) → is_eq o ≡ true → o ≡ Equal
equal_from Less h = absurd (true≢false (sym h))
equal_from Equal h = refl
equal_from Greater h = absurd (true≢false (sym h))

both_equal : (a b : Ordering) → is_eq (ordering_then a b) ≡ (is_eq a && is_eq b)
both_equal Less b = refl
both_equal Equal b = refl
both_equal Greater b = refl

second_equal : (a b : Ordering) → is_eq (ordering_then a b) ≡ true → b ≡ Equal
second_equal Less b h = absurd (true≢false (sym h))
second_equal Equal b h = equal_from b h
second_equal Greater b h = absurd (true≢false (sym h))

-- entries tie where their keys are equal
ties_are_equal : (x y : Entry) → ties entry_lt x y ≡ is_eq (key_cmp x.1 y.1)
ties_are_equal x y =
    ap (λ (o : Ordering). not (is_lt (key_cmp x.1 y.1)) && not (is_lt o)) (key_total.antisymm y.1 x.1)
    ∙ neither (key_cmp x.1 y.1)

-- ---- the entries of an oid

abbrev number_of : Entry → ℤ
number_of e = e.1.1

abbrev of_oid : ℕ → Entry → Bool
of_oid oid e = same_oid oid e.1.0

same_oids : (oid a b : ℕ) → same_oid oid a ≡ true → same_oid oid b ≡ true → is_lt (nat_cmp b a) ≡ false
same_oids oid a b of_a of_b =
    ap is_lt (sym (nat_cmp_total.congr oid b a (equal_from (nat_cmp oid b) of_b)) ∙ equal_from (nat_cmp oid a) of_a)

one_number : (z : Entry) → OneNumber number_of (ties entry_lt z)
one_number z a b of_a of_b =
    let to_a : int_cmp z.1.1 a.1.1 ≡ Equal = second_equal (nat_cmp z.1.0 a.1.0) (int_cmp z.1.1 a.1.1) (sym (ties_are_equal z a) ∙ of_a) in
    let to_b : int_cmp z.1.1 b.1.1 ≡ Equal = second_equal (nat_cmp z.1.0 b.1.0) (int_cmp z.1.1 b.1.1) (sym (ties_are_equal z b) ∙ of_b) in
    ap is_le (sym (int_cmp_total.congr z.1.1 a.1.1 b.1.1 to_a) ∙ to_b)

kept_entries : (keys : List Key) (entries : List Entry) (oid : ℕ) → IsInOrder keys entries → filter (of_oid oid) entries ≡ by_number number_of (filter (of_oid oid) (numbered_keys keys))
kept_entries keys entries oid is =
    let given : List Entry = filter (of_oid oid) (numbered_keys keys) in
    one_list entry_lt entries_are_ordered (filter (of_oid oid) entries) (by_number number_of given)
    (rises_kept (of_oid oid) entry_lt entry_lt entries (λ x y of_x of_y low. low) (rises_from_sorted entry_lt entries_are_ordered entries is.rising))
    (rises_as (of_oid oid) (lower number_of) entry_lt (by_number number_of given) (λ x y of_x of_y low. both_not_less (nat_cmp y.1.0 x.1.0) (int_cmp y.1.1 x.1.1) (same_oids oid x.1.0 y.1.0 of_x of_y) low) (each_by_number number_of (λ e. of_oid oid e ≡ true) given (each_passes (of_oid oid) (numbered_keys keys))) (rises_by_number number_of given))
    (λ z. filter-filter (ties entry_lt z) (of_oid oid) entries
    ∙ ap (filter (of_oid oid)) (is.stable z)
    ∙ filter-filter (of_oid oid) (ties entry_lt z) (numbered_keys keys)
    ∙ sym (kept_by_number number_of (ties entry_lt z) (one_number z) given))

-- ---- where a search ends

sorted_keys : (keys sorted : List Key) (places : List ℕ) → AreSorted keys sorted places → IsSortedBy key_lt sorted
sorted_keys keys sorted places are =
    subst (IsSortedBy key_lt) (sym are.keys_of) (λ k d low high.
    let within : k + 1 < length are.entries = omega (arith, length-map are.entries (λ (e : Entry). e.1)) in
    rw (get_or-map (λ (e : Entry). e.1) are.entries (k + 1) (0, d) d within, get_or-map (λ (e : Entry). e.1) are.entries k (0, d) d (omega arith)) (are.in_order.rising k (0, d) low within))

oids_rise : (keys sorted : List Key) (places : List ℕ) → AreSorted keys sorted places → IsNonDecreasingBy (λ (k : Key). k.0) sorted
oids_rise keys sorted places are =
    IsNonDecreasingBy-from_sort (λ (k : Key). k.0) sorted (λ k d low high. first_not_less (nat_cmp (get_or sorted (k + 1) d).0 (get_or sorted k d).0) (int_cmp (get_or sorted (k + 1) d).1 (get_or sorted k d).1) (sorted_keys keys sorted places are k d low high))

-- the lower keys stand first
pub lower_keys_first : (sorted : List Key) (wanted : Key) → IsSortedBy key_lt sorted → IsPartitionedBy (λ (k : Key). is_lt (key_cmp k wanted)) sorted
lower_keys_first sorted wanted rising i j d le within low =
    let x : Key = get_or sorted i d in
    let y : Key = get_or sorted j d in
    let up : key_lt y x ≡ false = sorted_far key_lt keys_are_ordered sorted rising i j d le within in
    true_from_ne_false (key_lt x wanted) (λ not_low. both_ways (key_lt y wanted) (keys_are_ordered.chain y x wanted up not_low) low)

-- ---- the places of a group

-- where the keys of an oid begin and end
pub record AreEnds (sorted : List Key) (oid start end : ℕ) : Type 0 where
  pub from : IsOidStart sorted oid start
  pub to : IsOidEnd sorted oid end
  pub start_within : start ≤ length sorted
  pub end_within : end ≤ length sorted

-- what two searches say of the keys that they see
pub ends_are : (keys sorted : List Key) (places : List ℕ) (low high : List Key) (oid start end : ℕ) → AreSorted keys sorted places → low ≡ sorted → high ≡ sorted → start ≤ length low → (IsNonDecreasingBy (λ (k : Key). k.0) low → IsOidStart low oid start) → end ≤ length high → (IsNonDecreasingBy (λ (k : Key). k.0) high → IsOidEnd high oid end) → AreEnds sorted oid start end
ends_are keys sorted places low high oid start end are is_low is_high start_within from end_within to =
    let Rising : List Key → Type 0 = λ l. IsNonDecreasingBy (λ (k : Key). k.0) l in
    let rise : Rising sorted = oids_rise keys sorted places are in
    record {
      from = subst (λ (l : List Key). IsOidStart l oid start) is_low (from (subst Rising (sym is_low) rise));
      to = subst (λ (l : List Key). IsOidEnd l oid end) is_high (to (subst Rising (sym is_high) rise));
      start_within = subst (λ (l : List Key). start ≤ length l) is_low start_within;
      end_within = subst (λ (l : List Key). end ≤ length l) is_high end_within;
    }

pub ends_in_order : (sorted : List Key) (oid start end : ℕ) → AreEnds sorted oid start end → start ≤ end
ends_in_order sorted oid start end ends = elim (cases_lt end start) [ inl early ↦ absurd (crossed early) | inr fine ↦ fine ]
  where
    crossed : end < start → ⊥
    crossed early =
        let key : Key = get_or sorted end (0, pos 0) in
        let low : key.0 < oid = ltb-true key.0 oid (ends.from.0 end (0, pos 0) (omega arith) early) in
        let high : oid < key.0 = leb-false key.0 oid (ends.to.1 end (0, pos 0) (omega arith) (omega (arith, ends.start_within))) in
        omega arith

pub places_within : (keys sorted : List Key) (places : List ℕ) → AreSorted keys sorted places → length places ≡ length sorted
places_within keys sorted places are =
    ap length are.places_of ∙ length-map are.entries (λ (e : Entry). e.0) ∙ sym (length-map are.entries (λ (e : Entry). e.1)) ∙ ap length (sym are.keys_of)

other_oid : (oid n : ℕ) → (oid ≡ n → ⊥) → same_oid oid n ≡ false
other_oid oid n other = unsigned_tied oid n ∙ ne_eqb oid n other

the_oid : (oid n : ℕ) → oid ≡ n → same_oid oid n ≡ true
the_oid oid n is = unsigned_tied oid n ∙ eq-eqb oid n is

before_start : (sorted : List Key) (oid start end : ℕ) → AreEnds sorted oid start end → AllWithin (λ (k : Key). same_oid oid k.0 ≡ false) sorted 0 start
before_start sorted oid start end ends k d low high =
    let n : ℕ = (get_or sorted k d).0 in
    let less : n < oid = ltb-true n oid (ends.from.0 k d low high) in
    other_oid oid n (λ same. omega arith)

from_start : (sorted : List Key) (oid start end : ℕ) → AreEnds sorted oid start end → AllWithin (λ (k : Key). same_oid oid k.0 ≡ true) sorted start (start + (end - start))
from_start sorted oid start end ends k d low high =
    let up : start ≤ end = ends_in_order sorted oid start end ends in
    let end_within : end ≤ length sorted = ends.end_within in
    let n : ℕ = (get_or sorted k d).0 in
    let not_less : oid ≤ n = ltb-false n oid (ends.from.1 k d low (omega arith)) in
    let not_more : n ≤ oid = leb-true n oid (ends.to.0 k d (omega arith) (omega arith)) in
    the_oid oid n (omega arith)

behind_end : (sorted : List Key) (oid start end : ℕ) → AreEnds sorted oid start end → AllWithin (λ (k : Key). same_oid oid k.0 ≡ false) sorted (start + (end - start)) (length sorted)
behind_end sorted oid start end ends k d low high =
    let up : start ≤ end = ends_in_order sorted oid start end ends in
    let n : ℕ = (get_or sorted k d).0 in
    let more : oid < n = leb-false n oid (ends.to.1 k d (omega arith) high) in
    other_oid oid n (λ same. omega arith)

-- what holds of keys holds of their entries
within_entries : (P : Key → Type 0) (sorted : List Key) (entries : List Entry) (a b : ℕ) → sorted ≡ map (λ e. e.1) entries → b ≤ length sorted → AllWithin P sorted a b → AllWithin (λ (e : Entry). P e.1) entries a b
within_entries P sorted entries a b are le all k d low high =
    let long : length sorted ≡ length entries = ap length are ∙ length-map entries (λ (e : Entry). e.1) in
    let small : k < length entries = omega arith in
    subst P (ap (λ (l : List Key). get_or l k d.1) are ∙ get_or-map (λ (e : Entry). e.1) entries k d d.1 small) (all k d.1 low high)

-- the part between the ends of an oid has the places of its keys
pub group_is : (keys sorted : List Key) (places : List ℕ) (oid start end : ℕ) → AreSorted keys sorted places → AreEnds sorted oid start end → slice_range places start end ≡ group_of keys oid
group_is keys sorted places oid start end are ends =
    let place : Entry → ℕ = λ e. e.0 in
    let up : start ≤ end = ends_in_order sorted oid start end ends in
    let start_within : start ≤ length sorted = ends.start_within in
    let end_within : end ≤ length sorted = ends.end_within in
    let long : length sorted ≡ length are.entries = ap length are.keys_of ∙ length-map are.entries (λ (e : Entry). e.1) in
    let front = within_entries (λ (k : Key). same_oid oid k.0 ≡ false) sorted are.entries 0 start are.keys_of start_within (before_start sorted oid start end ends) in
    let inside = within_entries (λ (k : Key). same_oid oid k.0 ≡ true) sorted are.entries start (start + (end - start)) are.keys_of (omega arith) (from_start sorted oid start end ends) in
    let behind = within_entries (λ (k : Key). same_oid oid k.0 ≡ false) sorted are.entries (start + (end - start)) (length sorted) are.keys_of (omega arith) (behind_end sorted oid start end ends) in
    let part : take (end - start) (drop start are.entries) ≡ filter (of_oid oid) are.entries = kept_run (of_oid oid) are.entries start (end - start) front inside (λ k d low high. behind k d low (omega arith)) in
    ap (λ (l : List ℕ). take (end - start) (drop start l)) are.places_of
    ∙ ap (take (end - start)) (drop-map place start are.entries)
    ∙ take-map place (end - start) (drop start are.entries)
    ∙ ap (map place) (part ∙ kept_entries keys are.entries oid are.in_order)

-- ---- the place of a key

abbrev pub is_key : ℕ → ℤ → Key → Bool
is_key oid number key = same_oid oid key.0 && int_eq number key.1

is_key-cmp : (oid : ℕ) (number : ℤ) (key : Key) → is_key oid number key ≡ is_eq (key_cmp (oid, number) key)
is_key-cmp oid number key = sym (both_equal (nat_cmp oid key.0) (int_cmp number key.1))

-- the first such key in order is the first as they were given
found_entry : (keys : List Key) (entries : List Entry) (oid : ℕ) (number : ℤ) → IsInOrder keys entries → option_map (λ (e : Entry). e.0) (find (λ (e : Entry). is_key oid number e.1) entries) ≡ first_place keys oid number
found_entry keys entries oid number is =
    let p : Entry → Bool = λ e. is_key oid number e.1 in
    let z : Entry = (0, (oid, number)) in
    let alike : (e : Entry) → p e ≡ ties entry_lt z e = λ e. is_key-cmp oid number e.1 ∙ sym (ties_are_equal z e) in
    let same : filter p entries ≡ filter p (numbered_keys keys) = filter_agree p (ties entry_lt z) alike entries ∙ is.stable z ∙ sym (filter_agree p (ties entry_lt z) alike (numbered_keys keys)) in
    ap (option_map (λ (e : Entry). e.0)) (find_kept p entries ∙ ap (λ (l : List Entry). slice_get l 0) same ∙ sym (find_kept p (numbered_keys keys)))
    ∙ find-numbered (is_key oid number) keys

placed_at : (keys sorted : List Key) (places : List ℕ) (oid : ℕ) (number : ℤ) → AreSorted keys sorted places → slice_get places (position_or_len (is_key oid number) sorted) ≡ first_place keys oid number
placed_at keys sorted places oid number are =
    let p : Entry → Bool = λ e. is_key oid number e.1 in
    let at : position_or_len (is_key oid number) sorted ≡ position_or_len p are.entries = ap (position_or_len (is_key oid number)) are.keys_of ∙ position_or_len-map (λ (e : Entry). e.1) (is_key oid number) are.entries in
    ap (slice_get places) at
    ∙ ap (λ (l : List ℕ). slice_get l (position_or_len p are.entries)) are.places_of
    ∙ slice_get-map (λ (e : Entry). e.0) are.entries (position_or_len p are.entries)
    ∙ ap (option_map (λ (e : Entry). e.0)) (sym (find_at p are.entries))
    ∙ found_entry keys are.entries oid number are.in_order

less_is_other : (o : Ordering) → is_lt o ≡ true → is_eq (ordering_reverse o) ≡ false
less_is_other Less h = refl
less_is_other Equal h = absurd (true≢false (sym h))
less_is_other Greater h = absurd (true≢false (sym h))

neither_is_equal : (o : Ordering) → is_lt o ≡ false → is_lt (ordering_reverse o) ≡ false → is_eq o ≡ true
neither_is_equal Less h k = absurd (true≢false h)
neither_is_equal Equal h k = refl
neither_is_equal Greater h k = absurd (true≢false k)

-- a lower key isn't the key
lower_is_other : (oid : ℕ) (number : ℤ) (key : Key) → key_lt key (oid, number) ≡ true → is_key oid number key ≡ false
lower_is_other oid number key low =
    is_key-cmp oid number key
    ∙ ap is_eq (key_total.antisymm (oid, number) key)
    ∙ less_is_other (key_cmp key (oid, number)) low

-- where a key isn't lower and a later one is the key, it is the key too
key_between : (oid : ℕ) (number : ℤ) (x y : Key) → key_lt x (oid, number) ≡ false → key_lt y x ≡ false → is_key oid number y ≡ true → is_key oid number x ≡ true
key_between oid number x y not_lower up is =
    let same : key_cmp (oid, number) y ≡ Equal = equal_from (key_cmp (oid, number) y) (sym (is_key-cmp oid number y) ∙ is) in
    let not_higher : key_lt (oid, number) x ≡ false = ap is_lt (key_total.congr (oid, number) y x same) ∙ up in
    is_key-cmp oid number x
    ∙ neither_is_equal (key_cmp (oid, number) x) not_higher (ap is_lt (sym (key_total.antisymm x (oid, number))) ∙ not_lower)

-- what a search says of the keys that it sees
pub key_start_is : (keys sorted : List Key) (places : List ℕ) (seen : List Key) (wanted : Key) (at : ℕ) → AreSorted keys sorted places → seen ≡ sorted → (IsSortedBy key_lt seen → IsKeyStart seen wanted at) → IsKeyStart sorted wanted at
key_start_is keys sorted places seen wanted at are is_seen start =
    subst (λ (l : List Key). IsKeyStart l wanted at) is_seen (start (subst (IsSortedBy key_lt) (sym is_seen) (sorted_keys keys sorted places are)))

-- the test of the code
pub is_key-tested : (oid : ℕ) (number : ℤ) (key : Key) → is_key oid number key ≡ (nat_eq key.0 oid && int_eq key.1 number)
is_key-tested oid number key =
    ap (λ (b : Bool). b && int_eq number key.1) (unsigned_tied oid key.0 ∙ nat_eq_equiv.symm oid key.0)
    ∙ ap (λ (b : Bool). nat_eq key.0 oid && b) (int_eq_equiv.symm number key.1)

-- a key that stands there is the first
pub first_is_there : (keys sorted : List Key) (places : List ℕ) (oid : ℕ) (number : ℤ) (at : ℕ) (key : Key) → AreSorted keys sorted places → IsKeyStart sorted (oid, number) at → slice_get sorted at ≡ Some key → is_key oid number key ≡ true → slice_get places at ≡ first_place keys oid number
first_is_there keys sorted places oid number at key are ends there is =
    let within : at < length sorted = slice_get_within sorted at key there in
    let found : position_or_len (is_key oid number) sorted ≡ at = position_or_len_is (is_key oid number) sorted at key (omega arith) (λ k small. lower_is_other oid number (get_or sorted k key) (ends.0 k key (omega arith) small)) (λ small. ap (is_key oid number) (get_or_from_slice_get sorted at key key there) ∙ is) in
    ap (slice_get places) (sym found) ∙ placed_at keys sorted places oid number are

-- and where none stands there, there is none
pub none_is_there : (keys sorted : List Key) (places : List ℕ) (oid : ℕ) (number : ℤ) (at : ℕ) → AreSorted keys sorted places → IsKeyStart sorted (oid, number) at → ((key : Key) → slice_get sorted at ≡ Some key → is_key oid number key ≡ false) → None ≡ first_place keys oid number
none_is_there keys sorted places oid number at are ends other =
    let d : Key = (oid, number) in
    let none : (k : ℕ) → k < length sorted → is_key oid number (get_or sorted k d) ≡ false = λ k small. elim (cases_lt k at) [ inl h ↦ lower_is_other oid number (get_or sorted k d) (ends.0 k d (omega arith) h) | inr h ↦ later k small h ] in
    let found : position_or_len (is_key oid number) sorted ≡ length sorted = position_or_len_is (is_key oid number) sorted (length sorted) d (omega arith) none (λ small. absurd (omega arith)) in
    sym (slice_get_past places (length sorted) (omega (arith, places_within keys sorted places are)))
    ∙ ap (slice_get places) (sym found)
    ∙ placed_at keys sorted places oid number are
  where
    later : (k : ℕ) → k < length sorted → at ≤ k → is_key oid number (get_or sorted k (oid, number)) ≡ false
    later k small le =
        let x : Key = get_or sorted at (oid, number) in
        let y : Key = get_or sorted k (oid, number) in
        let up : key_lt y x ≡ false = sorted_far key_lt keys_are_ordered sorted (sorted_keys keys sorted places are) at k (oid, number) le small in
        let not_lower : key_lt x (oid, number) ≡ false = ends.1 at (oid, number) (omega arith) (omega arith) in
        let no : is_key oid number x ≡ false = other x (slice_get-get_or sorted at (oid, number) (omega arith)) in
        false_from_ne_true (is_key oid number y) (λ is. both_ways (is_key oid number x) no (key_between oid number x y not_lower up is))
