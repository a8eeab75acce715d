use Rattle.std.proofs.Common.{◌≡◌, true, refl, sym, subst, ℕ, ◌<◌, length, rules}
use Rattle.std.proofs.Math.ListN.{set}
use Rattle.std.proofs.lemmas.List.{length-set}
use Rattle.std.specs.Vec.{vec_capacity, vec_len}
use Rattle.restore_plan.specs.declared.status.EntryStatus.TheVariants.{Skipped}
use Rattle.restore_core.specs.declared.event.Event.TheVariants.{Skip}
use Rattle.restore_core.specs.declared.phase.Phase.TheVariants.{Ended}
use Rattle.restore_core.specs.Machine.{enabled}
use Rattle.restore_board.specs.Standing.{Standing, state}
use Rattle.restore_board.proofs.Keeping.{fits, kept-after, seen-after}
use Rattle.restore_board.proofs.Moves.{was-skipped}
use Rattle.restore_board.proofs.Told.{skipped-by, skipping, skips-waiting}
use Rattle.restore_board.proofs.board.Board.skip_by.Goals as goal

pub skip-requires : goal.skip-requires
skip-requires c = skips-waiting _ _ _ _ _ _ _ _ c.self.invariant _ c.self.view_is c.args.entry c.requires.may

pub push_reserved-requires : goal.push_reserved-requires
push_reserved-requires c =
    let q = c.self.inside in
    let s : Standing = record { opening = q.opening.now; boot = q.boot.now; plan = q.queue.plan; history = q.history.items } in
    let e = Skip c.args.entry in
    let count : length q.history.items ≡ vec_len q.history = search rules in
    subst (λ (n : ℕ). n < vec_capacity q.history) count
    (fits s e (vec_capacity q.history) c.self.invariant.legal (subst (λ (t : Standing). enabled (state t) e ≡ true) (sym c.self.view_is) c.requires.may) c.self.invariant.has_room)

pub invariant_of-self : goal.invariant_of-self
invariant_of-self c =
    let q = c.self.inside in
    let s : Standing = record { opening = q.opening.now; boot = q.boot.now; plan = q.queue.plan; history = q.history.items } in
    let e = Skip c.args.entry in
    let at = (skipping _ _ _ _ _ _ _ _ c.self.invariant _ c.self.view_is c.args.entry c.requires.may).at in
    let by = skipped-by _ _ _ _ _ _ _ _ c.self.invariant _ c.self.view_is c.args.entry c.args.by c.requires.blocked at.entry at.there in
    kept-after s e c.skip.new.self c.push_reserved.new.self.items q.engine.named q.engine.named q.engine.boot q.engine.boot q.queue.phases (set q.queue.phases c.args.entry (Ended (Skipped c.args.by))) q.notes q.notes (vec_capacity q.history) (vec_capacity c.push_reserved.new.self) q.statuses.items (vec_capacity q.statuses) c.self.invariant
    (subst (λ (t : Standing). enabled (state t) e ≡ true) (sym c.self.view_is) c.requires.may)
    (was-skipped s.boot q.engine.named s.plan q.queue.phases q.notes c.args.entry c.args.by at.entry at.there by)
    refl (length-set q.queue.phases c.args.entry (Ended (Skipped c.args.by))) refl c.push_reserved.ensures.capacity c.skip.ensures c.push_reserved.ensures.items

pub returns : goal.returns
returns c =
    let q = c.self.inside in
    let s : Standing = record { opening = q.opening.now; boot = q.boot.now; plan = q.queue.plan; history = q.history.items } in
    seen-after s _ (Skip c.args.entry) c.skip.new.self _ c.push_reserved.new.self.items c.self.view_is c.skip.ensures c.push_reserved.ensures.items
