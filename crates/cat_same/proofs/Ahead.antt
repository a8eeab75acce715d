-- Going over a map in any order: the least difference so far, and what is agreed on beside the entries that are ahead.
use Rattle.std.proofs.Common.{◌≡◌, ◌≢◌, inl, inr, Bool, true, false, true≢false, cond, List, [], ◌∷◌, Option, Some, None, is_some, IsSome, refl, sym, ap, subst, ◌∙◌}
use Rattle.std.specs.Prelude.{⊤, IfSome}
use Rattle.std.specs.declared.cmp.Ordering.TheVariants.{Less}
use Rattle.std.specs.Ordering.{is_eq, is_lt}
use Rattle.std.specs.FinMap.{get, from_entries}
use Rattle.std.specs.List.{AllByRecursion, IsDistinct}
use Rattle.std.specs.Map.{keys_of, lookup}
use Rattle.cat_model.specs.declared.key.Key.{Key}
use Rattle.cat_model.specs.declared.value.Value.{Value}
use Rattle.cat_model.specs.Keys.{key_cmp, key_eq}
use Rattle.cat_model.specs.KeyLaws.{key_cmp_total, key_cmp-IsAntisymmetric, key_eq-same}
use Rattle.cat_model.specs.Values.{Named}
use Rattle.cat_model.proofs.MapsSeen.{got_seen}
use Rattle.same_maps.proofs.Keys.{got_all}
use Rattle.cat_same.specs.Differences.{IsFirstDifference, IsWithEntry, lesser_of}
use Rattle.cat_same.proofs.Differences.{below, lesser_is}

-- a key that is less than another, if there is another
abbrev pub IsBelow : Key → Option Key → Type 0
IsBelow key None = ⊤
IsBelow key (Some other) = key_cmp key other ≡ Less

module _ (of other : Named) where
  -- the entries ahead are the map's; the least difference is one; each lesser key that isn't ahead is agreed on
  abbrev pub IsSoFar : List (Key × Value) → Option Key → Type 0
  IsSoFar ahead least =
      AllByRecursion (λ e. get of e.0 ≡ Some e.1) ahead
      × IfSome least (λ k. get of k ≢ get other k)
      × ((q : Key) → lookup (key_eq q) ahead ≡ None → IsSome (get of q) → IsBelow q least → get of q ≡ get other q)

  pub at_first : (es : List (Key × Value)) → from_entries es ≡ of → IsDistinct key_eq (keys_of es) → IsSoFar es None
  at_first es seen distinct = (
    got_all (λ k v. get of k ≡ Some v) of es seen distinct (λ k v is. is),
    tt,
    λ q none there less. absurd (true≢false (sym there ∙ ap is_some (ap (λ (m : Named). get m q) (sym seen) ∙ got_seen key_cmp_total key_cmp-IsAntisymmetric es q ∙ none))),
  )

  pub at_last : (least : Option Key) → IsSoFar [] least → IsFirstDifference of other least
  at_last None so = λ q there. so.2 q refl there tt
  at_last (Some k) so = (so.1, λ q less there. so.2 q refl there less)

  -- a key below the next one isn't it
  not_next : (q k : Key) (v : Value) (ahead : List (Key × Value)) → key_cmp q k ≡ Less → lookup (key_eq q) ahead ≡ None → lookup (key_eq q) ((k, v) ∷ ahead) ≡ None
  not_next q k v ahead less none = ap (λ r. cond (is_eq r) (Some v) (lookup (key_eq q) ahead)) less ∙ none

  -- the next entry is the other map's too
  kept : (k : Key) (v : Value) (ahead : List (Key × Value)) (least : Option Key) → IsSoFar ((k, v) ∷ ahead) least → get other k ≡ Some v → IsSoFar ahead least
  kept k v ahead least so same = (so.0.1, so.1, λ q none there less. by q none there less (key_eq q k) refl)
    where
      by : (q : Key) → lookup (key_eq q) ahead ≡ None → IsSome (get of q) → IsBelow q least → (b : Bool) → key_eq q k ≡ b → get of q ≡ get other q
      by q none there less true at = subst (λ (j : Key). get of j ≡ get other j) (sym (key_eq-same q k at)) (so.0.0 ∙ sym same)
      by q none there less false at = so.2 q (ap (λ b. cond b (Some v) (lookup (key_eq q) ahead)) at ∙ none) there less

  -- it isn't
  found : (k : Key) (v : Value) (ahead : List (Key × Value)) (least : Option Key) → IsSoFar ((k, v) ∷ ahead) least → get other k ≢ Some v → IsSoFar ahead (lesser_of least (Some k))
  found k v ahead None so apart = (
    so.0.1,
    λ same. apart (sym same ∙ so.0.0),
    λ q none there less. so.2 q (not_next q k v ahead less none) there tt,
  )
  found k v ahead (Some j) so apart = by (is_lt (key_cmp k j)) refl
    where
      by : (b : Bool) → is_lt (key_cmp k j) ≡ b → IsSoFar ahead (Some (cond b k j))
      by true lt = (
        so.0.1,
        λ same. apart (sym same ∙ so.0.0),
        λ q none there less. so.2 q (not_next q k v ahead less none) there (key_cmp_total.trans q k j less (lesser_is (key_cmp k j) lt)),
      )
      by false ge = (
        so.0.1,
        so.1,
        λ q none there less. so.2 q (not_next q k v ahead (below q j k ge less) none) there less,
      )

  -- the next entry is passed
  pub passed : (k : Key) (v : Value) (ahead : List (Key × Value)) (least next : Option Key) → IsSoFar ((k, v) ∷ ahead) least → IsWithEntry other (k, v) least next → IsSoFar ahead next
  passed k v ahead least next so (inl (same, is)) = subst (IsSoFar ahead) (sym is) (kept k v ahead least so same)
  passed k v ahead least next so (inr (apart, is)) = subst (IsSoFar ahead) (sym is) (found k v ahead least so apart)
