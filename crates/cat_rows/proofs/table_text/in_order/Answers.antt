use Rattle.std.proofs.Common.{◌≡◌, ℤ, List, map, ap, subst, ◌∙◌, Bor, rules}
use Rattle.std.specs.List.{All, filter}
use Rattle.std.specs.List.Sorted.{IsPermutation, ties}
use Rattle.std.proofs.lemmas.List.Sorted.{IsPermutation-map, answers_always}
use Rattle.cat_rows.specs.declared.cell.Cell.{Cell}
use Rattle.cat_rows.specs.Order.{key_of, comes_before}
use Rattle.cat_rows.proofs.OrderLemmas.{sorted_map, stable_map, map-map}
use Rattle.cat_rows.proofs.table_text.in_order.Goals as goal

pub returns : goal.returns
returns g c =
    let table = g.R.TableRow.table in
    let order = c.in_ok-order.order.items in
    let sorted = c.sort_by_key.new.self.items in
    let view : Bor g.row.R.Denot → List Cell = λ r. g.R.TableRow.cells r.now in
    let key : Bor g.row.R.Denot → ℤ × ℤ × ℤ = λ r. key_of table (view r) in
    let same : map view order ≡ map g.R.TableRow.cells c.args.rows.now = map-map (λ (r : Bor g.row.R.Denot). r.now) g.R.TableRow.cells order ∙ ap (map g.R.TableRow.cells) c.in_ok-order.ensures in
    record {
      permutation = let P : List (List Cell) → Type 0 = λ l. IsPermutation l (map view sorted) in subst P same (IsPermutation-map view order sorted c.in_ok-sort_by_key.ensures.permutation);
      rising = sorted_map view (comes_before table) sorted (c.in_ok-sort_by_key.ensures.sorted key (answers_always _ (λ a r. r ≡ key a.0.now) _ (λ f a r f' called. search rules)));
      stable = let P : List (List Cell) → Type 0 = λ l. All (λ row. filter (ties (comes_before table) row) (map view sorted) ≡ filter (ties (comes_before table) row) l) l in
          subst P same (stable_map view (comes_before table) order sorted (c.in_ok-sort_by_key.ensures.stable key (answers_always _ (λ a r. r ≡ key a.0.now) _ (λ f a r f' called. search rules))));
    }
