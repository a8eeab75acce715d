-- What is kept of lists that are the same.
use Rattle.std.proofs.Common.{◌≡◌, ℕ, Bool, List, Option, sym, subst}
use Rattle.std.specs.Global.{Vec}
use Rattle.restore_plan.specs.declared.planned.Planned.{Planned}
use Rattle.restore_core.specs.declared.phase.Phase.{Phase}
use Rattle.restore_queue.specs.Indexed.{AllMet, AllNearly, AreMarked, Kept}

pub kept-same : (plan : List Planned) (f f' : List Phase) (w w' : List (Vec ℕ)) (m m' : List ℕ) (k k' : List Bool) (r r' : List (Option ℕ)) → f' ≡ f → w' ≡ w → m' ≡ m → k' ≡ k → r' ≡ r → Kept plan f w m k r → Kept plan f' w' m' k' r'
kept-same plan f f' w w' m m' k k' r r' ef ew em ek er q =
    subst (λ (x : List Phase). Kept plan x w' m' k' r') (sym ef)
    (subst (λ (x : List (Vec ℕ)). Kept plan f x m' k' r') (sym ew)
    (subst (λ (x : List ℕ). Kept plan f w x k' r') (sym em)
    (subst (λ (x : List Bool). Kept plan f w m x r') (sym ek)
    (subst (λ (x : List (Option ℕ)). Kept plan f w m k x) (sym er) q))))

pub marked-same : (f f' : List Phase) (w w' : List (Vec ℕ)) (m m' : List ℕ) (k k' : List Bool) → f' ≡ f → w' ≡ w → m' ≡ m → k' ≡ k → AreMarked f w m k → AreMarked f' w' m' k'
marked-same f f' w w' m m' k k' ef ew em ek h =
    subst (λ (x : List Phase). AreMarked x w' m' k') (sym ef)
    (subst (λ (x : List (Vec ℕ)). AreMarked f x m' k') (sym ew)
    (subst (λ (x : List ℕ). AreMarked f w x k') (sym em)
    (subst (λ (x : List Bool). AreMarked f w m x) (sym ek) h)))

pub met-same : (f f' : List Phase) (w w' : List (Vec ℕ)) (m : List ℕ) → f' ≡ f → w' ≡ w → AllMet f w m → AllMet f' w' m
met-same f f' w w' m ef ew h = subst (λ (x : List Phase). AllMet x w' m) (sym ef) (subst (λ (x : List (Vec ℕ)). AllMet f x m) (sym ew) h)

pub nearly-same : (f f' : List Phase) (w w' : List (Vec ℕ)) (m : List ℕ) (j : ℕ) → f' ≡ f → w' ≡ w → AllNearly f w m j → AllNearly f' w' m j
nearly-same f f' w w' m j ef ew h =
    subst (λ (x : List Phase). AllNearly x w' m j) (sym ef) (subst (λ (x : List (Vec ℕ)). AllNearly f x m j) (sym ew) h)
