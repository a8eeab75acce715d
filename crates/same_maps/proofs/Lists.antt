-- Lists that agree so far.
use Rattle.std.proofs.Common.{◌≡◌, ℕ, ◌+◌, ◌<◌, ◌≤◌, List, [], ◌∷◌, ◌++◌, length, take, sym, ap, ◌∙◌}
use Rattle.std.proofs.Math.ListN.{get_or}
use Rattle.std.proofs.lemmas.List.{take_more, take_all, get_or_default}

module _ {X : Type 0} where
  -- one more that is the same
  pub one_more : (xs ys : List X) (i : ℕ) (x y : X) → i < length xs → i < length ys → x ≡ get_or xs i x → y ≡ get_or ys i y → take i xs ≡ take i ys → x ≡ y → take (i + 1) xs ≡ take (i + 1) ys
  one_more xs ys i x y h k at_x at_y same e =
      take_more xs i x h
      ∙ (λ j. same j ++ (sym at_x ∙ e ∙ at_y) j ∷ [])
      ∙ sym (take_more ys i y k)

  -- elements at the same place of lists that are the same
  pub at_one_place : (xs ys : List X) (i : ℕ) (x y : X) → i < length xs → x ≡ get_or xs i x → y ≡ get_or ys i y → xs ≡ ys → x ≡ y
  at_one_place xs ys i x y h at_x at_y e =
      at_x
      ∙ get_or_default xs i x y h
      ∙ ap (λ (zs : List X). get_or zs i y) e
      ∙ sym at_y

  -- at the end of both
  pub all_same : (xs ys : List X) (i : ℕ) → length xs ≤ i → length ys ≤ i → take i xs ≡ take i ys → xs ≡ ys
  all_same xs ys i h k e = sym (take_all i xs h) ∙ e ∙ take_all i ys k
