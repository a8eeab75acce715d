use Rattle.std.proofs.Common.{ap}
use Rattle.std.specs.Vec.{vec_capacity}
use Rattle.cat_engine.specs.Held.{Held}
use Rattle.restore_board.proofs.Keeping.{kept-begun}
use Rattle.restore_board.proofs.board.Board.begin.Goals as goal

pub invariant_of-result : goal.invariant_of-result
invariant_of-result c =
    kept-begun c.args.opening.now c.args.boot.now c.args.plan.now c.in_ok-queue.queue c.args.engine.named c.args.engine.boot c.in_ok-notes.notes c.in_ok-history.history.items (vec_capacity c.in_ok-history.history) c.in_ok-statuses.statuses.items (vec_capacity c.in_ok-statuses.statuses)
    c.in_ok-queue.ensures
    (ap (λ (h : Held). h.named) c.requires)
    (ap (λ (h : Held). h.boot) c.requires)
    c.in_ok-notes.ensures c.in_ok-history.ensures.none c.in_ok-history.ensures.room c.in_ok-statuses.ensures.none c.in_ok-statuses.ensures.room
