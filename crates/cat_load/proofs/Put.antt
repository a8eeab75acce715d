-- A value that is set and then set back.
use Rattle.std.proofs.Common.{◌≡◌, cond, Some, refl, sym, ap, ◌∙◌}
use Rattle.std.specs.declared.cmp.Ordering.{Ordering}
use Rattle.std.specs.declared.cmp.Ordering.TheVariants.{Less, Equal, Greater}
use Rattle.std.specs.Ordering.{is_eq}
use Rattle.std.specs.Cmp.{IsTotalOrder}
use Rattle.std.specs.FinMap.{FinMap, IsAntisymmetric, get, insert, get-insert, same_map}
use Rattle.std.specs.Prelude.{List, []}
use Rattle.cat_model.specs.declared.object.QName.{QName}
use Rattle.cat_model.specs.declared.key.Key.TheVariants as key
use Rattle.cat_model.specs.declared.value.Value.TheVariants as value
use Rattle.cat_model.specs.KeyLaws.{key_cmp_total, key_cmp-IsAntisymmetric}
use Rattle.cat_model.specs.Values.{Row, Named}
use Rattle.cat_load.specs.Loads.{with_rows}

pub put_back : {K X : Type 0} {R : K → K → Ordering} (o : IsTotalOrder R) → IsAntisymmetric R → (m : FinMap R X) (k : K) (old new : X) → get m k ≡ Some old → insert (insert m k new) k old ≡ m
put_back {K} {X} {R} o apart m k old new is = same_map o apart (insert (insert m k new) k old) m (λ q.
    get-insert o (insert m k new) k old q
    ∙ ap (cond (is_eq (R q k)) (Some old)) (get-insert o m k new q)
    ∙ by q (R q k) refl)
  where
    by : (q : K) (answer : Ordering) → R q k ≡ answer → cond (is_eq answer) (Some old) (cond (is_eq answer) (Some new) (get m q)) ≡ get m q
    by q Less e = refl
    by q Equal e = sym is ∙ ap (get m) (sym (apart q k e))
    by q Greater e = refl

-- a table's rows that are taken out and put back
pub rows_put_back : (named : Named) (q : QName) (rows : List Row) → get named (key.Rows q) ≡ Some (value.Rows rows) → with_rows (with_rows named q []) q rows ≡ named
unfolding with_rows
rows_put_back named q rows is = put_back key_cmp_total key_cmp-IsAntisymmetric named (key.Rows q) (value.Rows rows) (value.Rows []) is
