-- A plan has as many entries as it was made of.
use Rattle.std.proofs.Common.{◌≡◌, ℕ, Bool, List, [], ◌∷◌, ◌++◌, length, drop, Option, Result, Ok, Err, ap, arith}
use Rattle.std.specs.Global.{Vec}
use Rattle.cat_model.specs.declared.object.QName.{QName}
use Rattle.restore_plan.specs.declared.entry.Entry.{Entry}
use Rattle.restore_plan.specs.Order.{foreign_keys_in, plan_behind}
use Rattle.restore_steps.specs.declared.fault.PlanFault.{PlanFault}
use Rattle.restore_steps.specs.Faults.{entry_due, first_text, entries_due}
use Rattle.restore_steps.specs.Statements.{◌>>=◌}
use Rattle.toc_entry.specs.declared.entry.Entry as archived

pub as_many_restored : (owners : Bool) (es : List archived.Entry) (texts : List (Option (Vec ℕ))) (rs : List Entry) → entries_due owners es texts ≡ Ok rs → length es ≡ length rs
as_many_restored owners [] texts rs e = let f : ◌≡◌ {A = List Entry} [] rs = cc in ap (λ (xs : List Entry). length xs) f
as_many_restored owners (x ∷ xs) texts rs e = by (entry_due owners x (first_text texts)) (entries_due owners xs (drop 1 texts)) (λ ys is. as_many_restored owners xs (drop 1 texts) ys is) e
  where
    by : (d : Result Entry PlanFault) (later : Result (List Entry) PlanFault) → ((ys : List Entry) → later ≡ Ok ys → length xs ≡ length ys)
        → (d >>= λ (y : Entry). later >>= λ (ys : List Entry). Ok (y ∷ ys)) ≡ Ok rs → length (x ∷ xs) ≡ length rs
    by (Ok y) (Ok ys) same e =
        let f : y ∷ ys ≡ rs = cc in
        let g : length xs ≡ length ys = same ys (λ i. Ok ys) in
        omega (arith, g, ap (λ (zs : List Entry). length zs) f)
    by (Ok y) (Err fault) same e = cc
    by (Err fault) later same e = cc

pub as_many_planned : (parents : List (QName × QName)) (earlier es : List Entry) → length (plan_behind parents earlier es) ≡ length es
as_many_planned parents earlier [] = λ i. 0
as_many_planned parents earlier (e ∷ es) =
    let g : length (plan_behind (parents ++ foreign_keys_in e.steps) (earlier ++ e ∷ []) es) ≡ length es = as_many_planned (parents ++ foreign_keys_in e.steps) (earlier ++ e ∷ []) es in
    omega (arith, g)
