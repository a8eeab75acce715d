-- The first fault of entries, as a loop finds it.
use Rattle.std.proofs.Common.{◌≡◌, ℕ, zero, suc, ◌+◌, ◌-◌, ◌<◌, ◌≤◌, List, [], ◌∷◌, length, get_or, drop, Some, None, refl, sym, ap, ◌∙◌, arith, add-one, drop-cons}
use Rattle.std.specs.List.{slice_get}
use Rattle.toc_entry.specs.declared.entry.Entry.{Entry}
use Rattle.fmt_custom.specs.Customs.{Found, entry_fault_in, or_else, first_fault}

next_of : {X : Type 0} (xs : List X) (i : ℕ) (x : X) → slice_get xs i ≡ Some x → drop i xs ≡ x ∷ drop (suc i) xs
next_of [] zero x e = absurd cc
next_of [] (suc i) x e = absurd cc
next_of (y ∷ xs) zero x e = let same : y ≡ x = cc in ap (λ z. z ∷ xs) same
next_of (y ∷ xs) (suc i) x e = next_of xs i x e

none_of : {X : Type 0} (xs : List X) (i : ℕ) → slice_get xs i ≡ None → drop i xs ≡ []
none_of [] zero e = refl
none_of [] (suc i) e = refl
none_of (y ∷ xs) zero e = absurd cc
none_of (y ∷ xs) (suc i) e = none_of xs i e

past : {X : Type 0} (xs : List X) (i : ℕ) → length xs ≤ i → drop i xs ≡ []
past [] zero low = refl
past [] (suc i) low = refl
past (y ∷ xs) zero low = absurd (omega arith)
past (y ∷ xs) (suc i) low = past xs i (omega arith)

module _ (found : List Found) (len : ℕ) (es : List Entry) (ls : List ℕ) where
  pub more : (i : ℕ) (e : Entry) (left : ℕ) → i < length es → e ≡ get_or es i e → slice_get ls i ≡ Some left
      → first_fault found len (drop i es) (drop i ls) ≡ or_else (entry_fault_in found (len - left - 8) e) (first_fault found len (drop (i + 1) es) (drop (i + 1) ls))
  unfolding first_fault
  more i e left low is at =
      let here : drop i es ≡ e ∷ drop (suc i) es = drop-cons es i e low ∙ ap (λ x. x ∷ drop (suc i) es) (sym is) in
      rw (add-one, here, next_of ls i left at) refl

  pub no_left : (i : ℕ) → slice_get ls i ≡ None → first_fault found len (drop i es) (drop i ls) ≡ None
  unfolding first_fault
  no_left i at = rw (none_of ls i at) (by (drop i es))
    where
      by : (es : List Entry) → first_fault found len es [] ≡ None
      by [] = refl
      by (e ∷ es) = refl

  pub no_entry : (i : ℕ) → length es ≤ i → first_fault found len (drop i es) (drop i ls) ≡ None
  unfolding first_fault
  no_entry i low = rw (past es i low) refl
