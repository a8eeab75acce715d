-- Notes of entries, where some come behind those of one.
use Rattle.std.proofs.Common.{◌≡◌, ℕ, zero, suc, List, [], ◌∷◌, ◌++◌, length, Some, refl, ap, sym, ◌∙◌, append-nil}
use Rattle.std.proofs.Math.ListN.{set}
use Rattle.std.specs.Global.{Vec}
use Rattle.std.specs.List.{slice_get}
use Rattle.restore_plan.specs.declared.status.Note.{Note}
use Rattle.restore_board.specs.Notes.{lists_in, noted_at}

pub noted_none : (lists : List (List Note)) (i : ℕ) → noted_at lists i [] ≡ lists
noted_none [] i = refl
noted_none (ns ∷ others) zero = ap (λ (x : List Note). x ∷ others) (append-nil ns)
noted_none (ns ∷ others) (suc i) = ap (λ (x : List (List Note)). ns ∷ x) (noted_none others i)

pub same-many : (lists : List (List Note)) (i : ℕ) (more : List Note) → length (noted_at lists i more) ≡ length lists
same-many [] i more = refl
same-many (ns ∷ others) zero more = refl
same-many (ns ∷ others) (suc i) more = ap suc (same-many others i more)

-- a list that changes in its place
pub noted_set : (lists : List (Vec Note)) (i : ℕ) (v w : Vec Note) (more : List Note) → slice_get lists i ≡ Some v → w.items ≡ v.items ++ more → lists_in (set lists i w) ≡ noted_at (lists_in lists) i more
noted_set [] i v w more e is = cc
noted_set (u ∷ us) zero v w more e is =
    let here : u ≡ v = cc in
    ap (λ (x : List Note). x ∷ lists_in us) (is ∙ ap (λ (y : Vec Note). y.items ++ more) (sym here))
noted_set (u ∷ us) (suc i) v w more e is = ap (λ (x : List (List Note)). u.items ∷ x) (noted_set us i v w more e is)

pub same_set : (lists : List (Vec Note)) (i : ℕ) (v w : Vec Note) → slice_get lists i ≡ Some v → w.items ≡ v.items → lists_in (set lists i w) ≡ lists_in lists
same_set [] i v w e is = cc
same_set (u ∷ us) zero v w e is =
    let here : u ≡ v = cc in
    ap (λ (x : List Note). x ∷ lists_in us) (is ∙ ap (λ (y : Vec Note). y.items) (sym here))
same_set (u ∷ us) (suc i) v w e is = ap (λ (x : List (List Note)). u.items ∷ x) (same_set us i v w e is)
