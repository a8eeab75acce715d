-- The last key that is left goes into place.
use Rattle.std.proofs.Common.{List, ap, sym, ◌∙◌}
use Rattle.cat_model.specs.CopyEffect.{Unique}
use Rattle.rows_fit.proofs.Placing.{placed_all, all_placed, last_placed}
use Rattle.rows_fit.proofs.key_order.by_name.Goals as goal

pub loop-key-init : goal.loop-key-init
loop-key-init c = all_placed c.args.keys.items ∙ ap (placed_all c.args.keys.items) (sym c.in_ok-sorted.ensures.items)

pub loop-key-preserved : goal.loop-key-preserved
loop-key-preserved c =
    c.loop-key.invariant
    ∙ ap (λ (us : List Unique). placed_all us c.loop-key.sorted.items) c.in-Some.ensures.items
    ∙ last_placed c.pop.new.self.items c.in-Some.key c.loop-key.sorted.items
    ∙ ap (placed_all c.pop.new.self.items) (sym c.in_ok-place.ensures)
