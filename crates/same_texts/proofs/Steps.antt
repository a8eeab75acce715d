-- One element more of which something holds.
use Rattle.std.proofs.Common.{◌≡◌, ℕ, ◌+◌, ◌<◌, ◌≤◌, List, length, get_or, ap, subst, ◌∙◌, arith, inl, inr, ◌⊎◌}
use Rattle.std.proofs.lemmas.Bool.{cases_lt}
use Rattle.std.proofs.lemmas.List.{get_or_default}

abbrev pub Below : {A : Type 0} → (A → Type 0) → List A → ℕ → Type 0
Below {A} P xs i = (k : ℕ) (d : A) → k < i → P (get_or xs k d)

pub below_more : {A : Type 0} (P : A → Type 0) (xs : List A) (i : ℕ) (e : A) → i < length xs → Below P xs i → P (get_or xs i e) → Below P xs (i + 1)
below_more {A} P xs i e lt so_far here k d below = by (cases_lt k i)
  where
    by : (k < i) ⊎ (i ≤ k) → P (get_or xs k d)
    by (inl less) = so_far k d less
    by (inr le) =
        let same : i ≡ k = omega arith in
        subst P (get_or_default xs i e d lt ∙ ap (λ (n : ℕ). get_or xs n d) same) here
