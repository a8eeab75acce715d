-- Lists that agree so far, and lists of texts: `==` decides whether they are the same.
use Rattle.std.proofs.Common.{◌≡◌, ℕ, ◌+◌, ◌<◌, ◌≤◌, Bool, nat_eq, List, [], ◌∷◌, ◌++◌, length, take, refl, sym, ap, ◌∙◌}
use Rattle.std.proofs.Math.ListN.{get_or}
use Rattle.std.proofs.lemmas.List.{take_more, take_all, get_or_default}
use Rattle.std.specs.Bool.{Decides}
use Rattle.std.specs.Cmp.Lexicographic.{pointwise}
use Rattle.std.proofs.lemmas.Bool.Decides.{Decides-eqb}
use Rattle.std.proofs.lemmas.Slice.Eq.{slice_eq-Decides}
use Rattle.cat_model.specs.Values.{Bytes}

same_bytes : (a b : Bytes) → Decides (pointwise nat_eq a b) (a ≡ b)
same_bytes a b = slice_eq-Decides Decides-eqb a b (pointwise nat_eq a b) refl

pub same_lists : (a b : List Bytes) (r : Bool) → r ≡ pointwise (pointwise nat_eq) a b → Decides r (a ≡ b)
same_lists a b r e = slice_eq-Decides same_bytes a b r e

module _ {X : Type 0} where
  -- one more that is the same
  pub one_more : (xs ys : List X) (i : ℕ) (x y : X) → i < length xs → i < length ys → x ≡ get_or xs i x → y ≡ get_or ys i y → take i xs ≡ take i ys → x ≡ y → take (i + 1) xs ≡ take (i + 1) ys
  one_more xs ys i x y h k at_x at_y same e =
      take_more xs i x h
      ∙ (λ j. same j ++ (sym at_x ∙ e ∙ at_y) j ∷ [])
      ∙ sym (take_more ys i y k)

  -- elements at the same place of lists that are the same
  pub at_one_place : (xs ys : List X) (i : ℕ) (x y : X) → i < length xs → x ≡ get_or xs i x → y ≡ get_or ys i y → xs ≡ ys → x ≡ y
  at_one_place xs ys i x y h at_x at_y e =
      at_x
      ∙ get_or_default xs i x y h
      ∙ ap (λ (zs : List X). get_or zs i y) e
      ∙ sym at_y

  -- at the end of both
  pub all_same : (xs ys : List X) (i : ℕ) → length xs ≤ i → length ys ≤ i → take i xs ≡ take i ys → xs ≡ ys
  all_same xs ys i h k e = sym (take_all i xs h) ∙ e ∙ take_all i ys k
