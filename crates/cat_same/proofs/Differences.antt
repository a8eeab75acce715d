-- The first differences of two maps, each against the other, give the verdict on them.
use Rattle.std.proofs.Common.{◌≡◌, ◌≢◌, Bool, true, false, true≢false, cond, Option, Some, None, IsSome, refl, sym, ap, subst, ◌∙◌}
use Rattle.std.specs.declared.cmp.Ordering.{Ordering}
use Rattle.std.specs.declared.cmp.Ordering.TheVariants.{Less, Equal, Greater}
use Rattle.std.specs.Ordering.{is_lt, ordering_reverse}
use Rattle.std.specs.FinMap.{get, same_map}
use Rattle.cat_model.specs.declared.key.Key.{Key}
use Rattle.cat_model.specs.Keys.{key_cmp}
use Rattle.cat_model.specs.KeyLaws.{key_cmp_total, key_cmp-IsAntisymmetric}
use Rattle.cat_model.specs.declared.value.Value.{Value}
use Rattle.cat_model.specs.Values.{Named}
use Rattle.cat_same.specs.declared.compare.Verdict.{Verdict}
use Rattle.cat_same.specs.declared.compare.Verdict.TheVariants.{Same, Differs}
use Rattle.cat_same.specs.Differences.{AgreeBelow, IsFirstDifference, lesser_of}
use Rattle.cat_same.specs.Verdicts.{IsLeastDifference, IsVerdict}

-- a key that each of two maps has as the other has it is the same in both
both_sides : (x y : Option Value) → (IsSome x → x ≡ y) → (IsSome y → y ≡ x) → x ≡ y
both_sides None None f g = refl
both_sides (Some v) y f g = f refl
both_sides None (Some v) f g = sym (g refl)

-- of two keys of which the second isn't lesser, what is below the first is below the second
pub below : (j a b : Key) → is_lt (key_cmp b a) ≡ false → key_cmp j a ≡ Less → key_cmp j b ≡ Less
below j a b ge h = by (key_cmp a b) refl
  where
    by : (r : Ordering) → key_cmp a b ≡ r → key_cmp j b ≡ Less
    by Less e = key_cmp_total.trans j a b h e
    by Equal e = subst (λ (k : Key). key_cmp j k ≡ Less) (key_cmp-IsAntisymmetric a b e) h
    by Greater e =
        let turned : key_cmp b a ≡ Less = key_cmp_total.antisymm b a ∙ ap ordering_reverse e in
        let yes : is_lt (key_cmp b a) ≡ true = ap is_lt turned in
        absurd (true≢false (sym yes ∙ ge))

pub lesser_is : (r : Ordering) → is_lt r ≡ true → r ≡ Less
lesser_is Less e = refl
lesser_is Equal e = absurd cc
lesser_is Greater e = absurd cc

module _ (a b : Named) where
  no_difference : IsFirstDifference a b None → IsFirstDifference b a None → a ≡ b
  no_difference f g = same_map key_cmp_total key_cmp-IsAntisymmetric a b (λ q. both_sides (get a q) (get b q) (f q) (g q))

  least : (k : Key) → (get a k ≢ get b k) → AgreeBelow a b k → AgreeBelow b a k → IsLeastDifference a b k
  least k differs f g = record {
    differs = differs;
    agrees = λ j less. both_sides (get a j) (get b j) (f j less) (g j less);
  }

  of_two : (j k : Key) → IsFirstDifference a b (Some j) → IsFirstDifference b a (Some k) → (r : Bool) → is_lt (key_cmp k j) ≡ r → IsLeastDifference a b (cond r k j)
  of_two j k f g true e =
      least k (λ same. g.0 (sym same)) (λ q less. f.1 q (key_cmp_total.trans q k j less (lesser_is (key_cmp k j) e))) g.1
  of_two j k f g false e = least j f.0 f.1 (λ q less. g.1 q (below q j k e less))

  -- the lesser of the two first differences is the least
  pub differs_at : (f g : Option Key) (k : Key) → IsFirstDifference a b f → IsFirstDifference b a g → lesser_of f g ≡ Some k → IsLeastDifference a b k
  differs_at (Some j) (Some l) k f g e = subst (IsLeastDifference a b) (some_same _ _ e) (of_two j l f g (is_lt (key_cmp l j)) refl)
    where
      some_same : (x y : Key) → Some x ≡ Some y → x ≡ y
      some_same x y e = cc
  differs_at (Some j) None k f g e = subst (IsLeastDifference a b) (some_same j k e) (least j f.0 f.1 (λ q less. g q))
    where
      some_same : (x y : Key) → Some x ≡ Some y → x ≡ y
      some_same x y e = cc
  differs_at None (Some l) k f g e = subst (IsLeastDifference a b) (some_same l k e) (least l (λ same. g.0 (sym same)) (λ q less. f q) g.1)
    where
      some_same : (x y : Key) → Some x ≡ Some y → x ≡ y
      some_same x y e = cc
  differs_at None None k f g e = absurd cc

  -- without one the maps are the same
  pub same_where_none : (f g : Option Key) → IsFirstDifference a b f → IsFirstDifference b a g → lesser_of f g ≡ None → a ≡ b
  same_where_none None None f g e = no_difference f g
  same_where_none None (Some l) f g e = absurd cc
  same_where_none (Some j) None f g e = absurd cc
  same_where_none (Some j) (Some l) f g e = absurd cc

-- ---- one verdict

one_key : (a b : Named) (j k : Key) → IsLeastDifference a b j → IsLeastDifference a b k → (r : Ordering) → key_cmp j k ≡ r → j ≡ k
one_key a b j k f g Less e = absurd (f.differs (g.agrees j e))
one_key a b j k f g Equal e = key_cmp-IsAntisymmetric j k e
one_key a b j k f g Greater e = absurd (g.differs (f.agrees k (key_cmp_total.antisymm k j ∙ ap ordering_reverse e)))

pub one_verdict : (a b : Named) (v w : Verdict) → IsVerdict a b v → IsVerdict a b w → v ≡ w
one_verdict a b Same Same f g = refl
one_verdict a b Same (Differs k) f g = absurd (g.differs (ap (λ (m : Named). get m k) f))
one_verdict a b (Differs j) Same f g = absurd (f.differs (ap (λ (m : Named). get m j) g))
one_verdict a b (Differs j) (Differs k) f g = ap Differs (one_key a b j k f g (key_cmp j k) refl)
