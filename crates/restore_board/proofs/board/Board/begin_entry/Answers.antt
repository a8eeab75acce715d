use Rattle.std.proofs.Common.{◌≡◌, true, refl, sym, subst, ℕ, ◌<◌, length, rules}
use Rattle.std.proofs.Math.ListN.{set}
use Rattle.std.proofs.lemmas.List.{length-set}
use Rattle.std.specs.Vec.{vec_capacity, vec_len}
use Rattle.restore_core.specs.declared.event.Event.TheVariants.{Start}
use Rattle.restore_core.specs.declared.phase.Phase.TheVariants.{Running}
use Rattle.restore_core.specs.Machine.{enabled}
use Rattle.restore_board.specs.Standing.{Standing, state}
use Rattle.restore_board.proofs.Keeping.{fits, kept-after, seen-after}
use Rattle.restore_board.proofs.Moves.{started}
use Rattle.restore_board.proofs.Told.{starts-free, starts-small, starts-waiting}
use Rattle.restore_board.proofs.board.Board.begin_entry.Goals as goal

pub start-requires-clause-worker : goal.start-requires-clause-worker
start-requires-clause-worker c = starts-small _ _ _ _ _ _ _ _ c.self.invariant _ c.self.view_is c.args.worker c.args.entry c.requires

pub start-requires-clause-free : goal.start-requires-clause-free
start-requires-clause-free c = starts-free _ _ _ _ _ _ _ _ c.self.invariant _ c.self.view_is c.args.worker c.args.entry c.requires

pub start-requires-clause-waits : goal.start-requires-clause-waits
start-requires-clause-waits c = starts-waiting _ _ _ _ _ _ _ _ c.self.invariant _ c.self.view_is c.args.worker c.args.entry c.requires

pub push_reserved-requires : goal.push_reserved-requires
push_reserved-requires c =
    let q = c.self.inside in
    let s : Standing = record { opening = q.opening.now; boot = q.boot.now; plan = q.queue.plan; history = q.history.items } in
    let e = Start c.args.worker c.args.entry in
    let count : length q.history.items ≡ vec_len q.history = search rules in
    subst (λ (n : ℕ). n < vec_capacity q.history) count
    (fits s e (vec_capacity q.history) c.self.invariant.legal (subst (λ (t : Standing). enabled (state t) e ≡ true) (sym c.self.view_is) c.requires) c.self.invariant.has_room)

pub invariant_of-self : goal.invariant_of-self
invariant_of-self c =
    let q = c.self.inside in
    let s : Standing = record { opening = q.opening.now; boot = q.boot.now; plan = q.queue.plan; history = q.history.items } in
    let e = Start c.args.worker c.args.entry in
    kept-after s e c.start.new.self c.push_reserved.new.self.items q.engine.named q.engine.named q.engine.boot q.engine.boot q.queue.phases (set q.queue.phases c.args.entry (Running c.args.worker 0)) q.notes q.notes (vec_capacity q.history) (vec_capacity c.push_reserved.new.self) q.statuses.items (vec_capacity q.statuses) c.self.invariant
    (subst (λ (t : Standing). enabled (state t) e ≡ true) (sym c.self.view_is) c.requires)
    (started s.boot q.engine.named s.plan q.queue.phases q.notes c.args.worker c.args.entry)
    refl (length-set q.queue.phases c.args.entry (Running c.args.worker 0)) refl c.push_reserved.ensures.capacity c.start.ensures c.push_reserved.ensures.items

pub returns : goal.returns
returns c =
    let q = c.self.inside in
    let s : Standing = record { opening = q.opening.now; boot = q.boot.now; plan = q.queue.plan; history = q.history.items } in
    seen-after s _ (Start c.args.worker c.args.entry) c.start.new.self _ c.push_reserved.new.self.items c.self.view_is c.start.ensures c.push_reserved.ensures.items
