-- Keys that are put into place one by one, the last first.
use Rattle.std.proofs.Common.{◌≡◌, ℕ, ◌+◌, ◌<◌, ◌≤◌, Bool, true, false, cond, not, List, [], ◌∷◌, ◌++◌, length, take, drop, get_or, refl, ap, sym, ◌∙◌, arith, add-one, drop-cons, append_assoc}
use Rattle.std.proofs.lemmas.Bool.{true≢false}
use Rattle.std.specs.Ordering.{is_gt}
use Rattle.std.proofs.lemmas.List.{take_more, take_all, drop_all}
use Rattle.cat_model.specs.Values.{bytes_cmp}
use Rattle.cat_model.specs.CopyEffect.{Unique, by_name, placed}

pub not_true : (b : Bool) → not b ≡ true → b ≡ false
not_true true h = absurd (true≢false (sym h))
not_true false h = refl

pub not_false : (b : Bool) → not b ≡ false → b ≡ true
not_false true h = refl
not_false false h = absurd (true≢false h)

abbrev pub placed_all : List Unique → List Unique → List Unique
placed_all [] sorted = sorted
placed_all (u ∷ us) sorted = placed u (placed_all us sorted)

pub all_placed : (us : List Unique) → by_name us ≡ placed_all us []
all_placed [] = refl
all_placed (u ∷ us) = ap (placed u) (all_placed us)

pub last_placed : (us : List Unique) (u : Unique) (sorted : List Unique) → placed_all (us ++ u ∷ []) sorted ≡ placed_all us (placed u sorted)
last_placed [] u sorted = refl
last_placed (v ∷ vs) u sorted = ap (placed v) (last_placed vs u sorted)

module _ (u : Unique) (sorted : List Unique) (i : ℕ) (v : Unique) (below : i < length sorted) (is : v ≡ get_or sorted i v) where
  next : drop i sorted ≡ v ∷ drop (i + 1) sorted
  next =
      let e : drop i sorted ≡ get_or sorted i v ∷ drop (i + 1) sorted = rw add-one (drop-cons sorted i v below) in
      e ∙ ap (λ (w : Unique). w ∷ drop (i + 1) sorted) (sym is)

  one_taken : take (i + 1) sorted ≡ take i sorted ++ v ∷ []
  one_taken = take_more sorted i v below ∙ ap (λ (w : Unique). take i sorted ++ w ∷ []) (sym is)

  pub behind : is_gt (bytes_cmp u.0 v.0) ≡ true → take i sorted ++ placed u (drop i sorted) ≡ take (i + 1) sorted ++ placed u (drop (i + 1) sorted)
  behind gt =
      ap (λ (vs : List Unique). take i sorted ++ placed u vs) next
      ∙ ap (λ (b : Bool). take i sorted ++ cond b (v ∷ placed u (drop (i + 1) sorted)) (u ∷ v ∷ drop (i + 1) sorted)) gt
      ∙ sym (append_assoc (take i sorted) (v ∷ []) (placed u (drop (i + 1) sorted)))
      ∙ ap (λ (vs : List Unique). vs ++ placed u (drop (i + 1) sorted)) (sym one_taken)

  pub here : is_gt (bytes_cmp u.0 v.0) ≡ false → take i sorted ++ placed u (drop i sorted) ≡ take i sorted ++ u ∷ drop i sorted
  here other =
      ap (λ (vs : List Unique). take i sorted ++ placed u vs) next
      ∙ ap (λ (b : Bool). take i sorted ++ cond b (v ∷ placed u (drop (i + 1) sorted)) (u ∷ v ∷ drop (i + 1) sorted)) other
      ∙ ap (λ (vs : List Unique). take i sorted ++ u ∷ vs) (sym next)

pub at_end : (u : Unique) (sorted : List Unique) (i : ℕ) → length sorted ≤ i → take i sorted ++ placed u (drop i sorted) ≡ take (length sorted) sorted ++ u ∷ drop (length sorted) sorted
at_end u sorted i past =
    (λ j. take_all i sorted past j ++ placed u (drop_all i sorted past j))
    ∙ (λ j. sym (take_all (length sorted) sorted (omega arith)) j ++ u ∷ sym (drop_all (length sorted) sorted (omega arith)) j)
