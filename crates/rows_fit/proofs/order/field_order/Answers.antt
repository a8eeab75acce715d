-- The places of the columns are those of the names; where they count, the fields stay.
use Rattle.std.proofs.Common.{◌≡◌, ◌<◌, ℕ, true, List, Option, length, map, ap, sym, ◌∙◌}
use Rattle.rows_fit.specs.Orders.{field_from, counts_from}
use Rattle.rows_fit.proofs.InOrder.{places, picked_by, in_place, not_empty}
use Rattle.rows_fit.proofs.order.field_order.Goals as goal

pub returns-then-counts : goal.returns-then-counts
returns-then-counts c = λ fields long.
    let some : 0 < length c.args.names.now = not_empty c.args.names.now (sym c.is_empty.ensures ∙ c.if-is_empty.false) in
    let counts : counts_from 0 (places c.args.names.now c.args.columns.now) ≡ true =
    ap (counts_from 0) (sym (c.deref.ensures.value ∙ c.in_ok-order.ensures)) ∙ sym c.counts.ensures ∙ c.if-counts.true in
    in_place c.args.columns.now c.args.names.now fields some counts long

pub returns-else-counts : goal.returns-else-counts
returns-else-counts c = λ fields long.
    let some : 0 < length c.args.names.now = not_empty c.args.names.now (sym c.is_empty.ensures ∙ c.if-is_empty.false) in
    picked_by c.args.columns.now c.args.names.now fields some ∙ ap (λ (ps : List (Option ℕ)). map (field_from fields) ps) (sym c.in_ok-order.ensures)
