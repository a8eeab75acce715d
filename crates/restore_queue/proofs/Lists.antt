-- Items of a list of which one was set.
use Rattle.std.proofs.Common.{◌≡◌, ℕ, zero, suc, ◌<◌, List, [], ◌∷◌, length, Some, refl, arith}
use Rattle.std.proofs.Math.ListN.{set}
use Rattle.std.specs.List.{slice_get}

pub get-set : {A : Type 0} (xs : List A) (i : ℕ) (x : A) → i < length xs → slice_get (set xs i x) i ≡ Some x
get-set [] i x less = absurd (omega arith)
get-set (y ∷ ys) zero x less = refl
get-set (y ∷ ys) (suc i) x less = get-set ys i x (omega arith)

pub get-others : {A : Type 0} (xs : List A) (i k : ℕ) (x : A) → (k ≡ i → ⊥) → slice_get (set xs i x) k ≡ slice_get xs k
get-others [] i k x not = refl
get-others (y ∷ ys) zero zero x not = absurd (not refl)
get-others (y ∷ ys) zero (suc k) x not = refl
get-others (y ∷ ys) (suc i) zero x not = refl
get-others (y ∷ ys) (suc i) (suc k) x not = get-others ys i k x (λ e. not (omega arith))

pub get-there : {A : Type 0} (xs : List A) (i : ℕ) → i < length xs → (x : A) × (slice_get xs i ≡ Some x)
get-there [] i less = absurd (omega arith)
get-there (x ∷ xs) zero less = (x, refl)
get-there (x ∷ xs) (suc i) less = get-there xs i (omega arith)
