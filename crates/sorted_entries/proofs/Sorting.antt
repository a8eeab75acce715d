-- Entries of a catalogue whose keys rise are its entries.
use Rattle.std.proofs.Common.{◌≡◌, ℕ, ◌+◌, ◌<◌, Bool, true, false, true≢false, List, [], ◌∷◌, length, map, Option, Some, None, refl, sym, ap, ap₂, subst, ◌∙◌, arith, Bor}
use Rattle.std.proofs.Math.ListN.{get_or}
use Rattle.std.proofs.lemmas.List.{get_or-map, length-map}
use Rattle.std.proofs.lemmas.List.Sorted.{IsPermutation-map, IsPermutation-sym, Contains-permutation}
use Rattle.std.proofs.lemmas.Map.Entries.{place_from_lookup, lookup_from_place}
use Rattle.std.proofs.lemmas.Map.Keys.{IsDistinct-IsPermutation, apart_from_distinct, sorted_from_all_adjacent}
use Rattle.std.proofs.lemmas.Option.{slice_get_within, get_or_from_slice_get, slice_get-get_or}
use Rattle.std.specs.Cmp.{eq_by_cmp_equiv}
use Rattle.std.specs.FinMap.{from_entries, entries, get, same_map}
use Rattle.std.specs.List.{IsDistinct, Contains}
use Rattle.std.specs.List.Sorted.{IsPermutation, IsSortedBy, IsStrictlySortedBy}
use Rattle.std.specs.Map.{lookup, keys_of}
use Rattle.std.specs.Map.Iter.{deref_pair}
use Rattle.std.specs.Ordering.{eq_by_cmp, is_eq, is_lt, ordering_reverse}
use Rattle.std.specs.declared.cmp.Ordering.{Ordering}
use Rattle.std.specs.declared.cmp.Ordering.TheVariants.{Less, Equal, Greater}
use Rattle.cat_model.specs.declared.key.Key.{Key}
use Rattle.cat_model.specs.declared.value.Value.{Value}
use Rattle.cat_model.specs.Keys.{key_cmp, key_eq}
use Rattle.cat_model.specs.KeyLaws.{key_cmp_total, key_cmp-IsAntisymmetric, key_eq-same}
use Rattle.cat_model.specs.Values.{Named}
use Rattle.cat_model.proofs.MapsSeen.{got_seen, entries_seen}

abbrev pub Read : Type 0
Read = Bor Key × Bor Value

abbrev pub seen : Read → Key × Value
seen = deref_pair {K = Key} {X = Value}

-- a key that is neither above another nor the same is below it
third : (a b : Key) → is_lt (key_cmp b a) ≡ false → key_eq a b ≡ false → key_cmp a b ≡ Less
third a b above apart = by (key_cmp a b) refl
  where
    by : (o : Ordering) → key_cmp a b ≡ o → key_cmp a b ≡ Less
    by Less is = is
    by Equal is = absurd (true≢false (sym (ap is_eq is) ∙ apart))
    by Greater is = absurd (true≢false (sym (ap is_lt (key_cmp_total.antisymm b a ∙ ap ordering_reverse is)) ∙ above))

module _ (es fs : List (Key × Value)) (permuted : IsPermutation es fs) (distinct : IsDistinct key_eq (keys_of fs)) where
  -- what is found among entries is found among the same in another order
  moved : (q : Key) (v : Value) → lookup (key_eq q) es ≡ Some v → lookup (key_eq q) fs ≡ Some v
  moved q v found =
      let place = place_from_lookup (key_eq q) es v found in
      let pair : Key × Value = (place.1, v) in
      let there : Contains es pair = (place.0, slice_get_within es place.0 pair place.2, get_or_from_slice_get es place.0 pair pair place.2) in
      let now = Contains-permutation es fs pair permuted there in
      ap (λ (k : Key). lookup (key_eq k) fs) (key_eq-same q place.1 place.3)
      ∙ lookup_from_place (eq_by_cmp_equiv key_cmp_total) fs now.0 place.1 v distinct (slice_get-get_or fs now.0 pair now.1 ∙ ap Some now.2)

same_found : (o p : Option Value) → ((v : Value) → o ≡ Some v → p ≡ Some v) → ((v : Value) → p ≡ Some v → o ≡ Some v) → o ≡ p
same_found (Some v) p to from = sym (to v refl)
same_found None (Some v) to from = from v refl
same_found None None to from = refl

none_rise : IsStrictlySortedBy key_cmp []
unfolding IsStrictlySortedBy
none_rise = tt

rising : (ys : List Read) → IsSortedBy (λ x y. is_lt (key_cmp x.0.now y.0.now)) ys → IsDistinct key_eq (keys_of (map seen ys)) → IsStrictlySortedBy key_cmp (keys_of (map seen ys))
rising [] up distinct = none_rise
rising (y ∷ ys) up distinct =
    let all : List Read = y ∷ ys in
    let keys = keys_of (map seen all) in
    sorted_from_all_adjacent key_cmp_total keys y.0.now (λ k h. below k h)
  where
    as_long : length (keys_of (map seen (y ∷ ys))) ≡ length (y ∷ ys)
    as_long = length-map (map seen (y ∷ ys)) (λ (e : Key × Value). e.0) ∙ length-map (y ∷ ys) seen

    key_at : (k : ℕ) → k < length (y ∷ ys) → get_or (keys_of (map seen (y ∷ ys))) k y.0.now ≡ (get_or (y ∷ ys) k y).0.now
    key_at k within =
        get_or-map (λ (e : Key × Value). e.0) (map seen (y ∷ ys)) k (seen y) y.0.now (subst (λ (n : ℕ). k < n) (sym (length-map (y ∷ ys) seen)) within)
        ∙ ap (λ (e : Key × Value). e.0) (get_or-map seen (y ∷ ys) k y (seen y) within)

    below : (k : ℕ) → k + 1 < length (keys_of (map seen (y ∷ ys))) → key_cmp (get_or (keys_of (map seen (y ∷ ys))) k y.0.now) (get_or (keys_of (map seen (y ∷ ys))) (k + 1) y.0.now) ≡ Less
    below k h =
        let within : k + 1 < length (y ∷ ys) = subst (λ (n : ℕ). k + 1 < n) as_long h in
        let here = key_at k (before k (length (y ∷ ys)) within) in
        let next = key_at (k + 1) within in
        third (get_or (keys_of (map seen (y ∷ ys))) k y.0.now) (get_or (keys_of (map seen (y ∷ ys))) (k + 1) y.0.now)
        (ap₂ (λ (a b : Key). is_lt (key_cmp b a)) here next ∙ up k y (omega arith) within)
        (apart_from_distinct key_eq (keys_of (map seen (y ∷ ys))) k (k + 1) y.0.now distinct (omega arith) h)
      where
        before : (k n : ℕ) → k + 1 < n → k < n
        before k n h = omega arith

pub sorted_entries : (m : Named) (xs ys : List Read) → from_entries (map seen xs) ≡ m → IsDistinct key_eq (keys_of (map seen xs)) → IsPermutation xs ys → IsSortedBy (λ x y. is_lt (key_cmp x.0.now y.0.now)) ys → map seen ys ≡ entries m
sorted_entries m xs ys stands distinct permuted up =
    let es = map seen xs in
    let fs = map seen ys in
    let moves : IsPermutation es fs = IsPermutation-map seen xs ys permuted in
    let apart : IsDistinct key_eq (keys_of fs) = IsDistinct-IsPermutation key_eq (eq_by_cmp_equiv key_cmp_total).symm (keys_of es) (keys_of fs) (IsPermutation-map (λ (e : Key × Value). e.0) es fs moves) distinct in
    let same : from_entries {R = key_cmp} fs ≡ from_entries es = same_map key_cmp_total key_cmp-IsAntisymmetric (from_entries fs) (from_entries es) (λ q.
    got_seen key_cmp_total key_cmp-IsAntisymmetric fs q
    ∙ same_found (lookup (key_eq q) fs) (lookup (key_eq q) es) (moved fs es (IsPermutation-sym es fs moves) distinct q) (moved es fs moves apart q)
    ∙ sym (got_seen key_cmp_total key_cmp-IsAntisymmetric es q)) in
    sym (entries_seen key_cmp_total key_cmp-IsAntisymmetric fs (rising ys up apart)) ∙ ap entries (same ∙ stands)
