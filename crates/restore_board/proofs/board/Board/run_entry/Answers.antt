use Rattle.std.proofs.Common.{◌≡◌, ℕ, ◌<◌, true, length, List, Some, ap, sym, subst, ◌∙◌, rules}
use Rattle.std.proofs.Math.ListN.{set}
use Rattle.std.proofs.lemmas.List.{length-set}
use Rattle.std.specs.List.{slice_get}
use Rattle.std.specs.Vec.{vec_capacity, vec_len}
use Rattle.restore_plan.specs.declared.planned.Planned.{Planned}
use Rattle.restore_core.specs.declared.event.Event.TheVariants.{Step}
use Rattle.restore_core.specs.declared.phase.Phase.{Phase}
use Rattle.restore_core.specs.declared.phase.Phase.TheVariants.{Running}
use Rattle.restore_core.specs.Machine.{enabled}
use Rattle.restore_board.specs.Standing.{Standing, state}
use Rattle.restore_board.proofs.Gone.{is-next, kept-still, may-step, running, runs-there, same-many-notes, stepped-on, within-notes, within-plan}
use Rattle.restore_board.proofs.Keeping.{fits, kept-after, seen-after}
use Rattle.restore_board.proofs.board.Board.run_entry.Goals as goal

pub planned_at-planned-requires : goal.planned_at-planned-requires
planned_at-planned-requires c =
    subst (λ (ps : List Planned). c.args.entry < length ps) (sym c.plan.ensures) (within-plan _ _ _ _ _ _ _ _ c.self.invariant _ c.self.view_is c.args.worker c.args.entry c.requires.runs c.requires.place)

pub go_on-requires : goal.go_on-requires
go_on-requires c = within-notes _ _ _ _ _ _ _ _ c.self.invariant _ c.self.view_is c.args.worker c.args.entry c.requires.runs c.requires.place

pub invariant_of-self : goal.invariant_of-self
invariant_of-self c =
    kept-still _ c.self.inside.engine c.go_on.new.engine _ _ _ _ _ _ c.self.invariant c.in_err-phase.ensures.err c.in_err-phase.ensures.err_notes

pub step-requires-clause-runs : goal.step-requires-clause-runs
step-requires-clause-runs c = ((running _ _ _ _ _ _ _ _ c.self.invariant _ c.self.view_is c.args.worker c.args.entry c.requires.runs c.requires.place).run, runs-there _ _ _ _ _ _ _ _ c.self.invariant _ c.self.view_is c.args.worker c.args.entry c.requires.runs c.requires.place)

pub step-requires-clause-next : goal.step-requires-clause-next
step-requires-clause-next c =
    let q = c.self.inside in
    let p = c.planned_at-planned.result.now in
    let at : slice_get q.queue.plan c.args.entry ≡ Some p = ap (λ (ps : List Planned). slice_get ps c.args.entry) (sym c.plan.ensures) ∙ c.planned_at-planned.ensures in
    is-next _ _ _ _ _ _ _ _ c.self.invariant _ c.self.view_is c.args.worker c.args.entry c.requires.runs c.requires.place p c.run_at-run.result c.go_on.new.engine.named c.in_ok-phase.phase c.go_on.new.notes at c.in_ok-phase.ensures.gone

pub push_reserved-requires : goal.push_reserved-requires
push_reserved-requires c =
    let q = c.self.inside in
    let s : Standing = record { opening = q.opening.now; boot = q.boot.now; plan = q.queue.plan; history = q.history.items } in
    let e = Step c.args.worker in
    let count : length q.history.items ≡ vec_len q.history = search rules in
    subst (λ (n : ℕ). n < vec_capacity q.history) count
    (fits s e (vec_capacity q.history) c.self.invariant.legal (subst (λ (t : Standing). enabled (state t) e ≡ true) (sym c.self.view_is) (may-step (state c.args.self.now) c.args.worker c.requires.runs)) c.self.invariant.has_room)

pub invariant_of-self-2 : goal.invariant_of-self-2
invariant_of-self-2 c =
    let q = c.self.inside in
    let s : Standing = record { opening = q.opening.now; boot = q.boot.now; plan = q.queue.plan; history = q.history.items } in
    let e = Step c.args.worker in
    let p = c.planned_at-planned.result.now in
    let at : slice_get q.queue.plan c.args.entry ≡ Some p = ap (λ (ps : List Planned). slice_get ps c.args.entry) (sym c.plan.ensures) ∙ c.planned_at-planned.ensures in
    let runs : slice_get c.phases.result.now c.args.entry ≡ Some (Running c.args.worker (running _ _ _ _ _ _ _ _ c.self.invariant _ c.self.view_is c.args.worker c.args.entry c.requires.runs c.requires.place).run) =
    ap (λ (fs : List Phase). slice_get fs c.args.entry) c.phases.ensures ∙ runs-there _ _ _ _ _ _ _ _ c.self.invariant _ c.self.view_is c.args.worker c.args.entry c.requires.runs c.requires.place in
    let ran = c.run_at-run.ensures c.args.worker (running _ _ _ _ _ _ _ _ c.self.invariant _ c.self.view_is c.args.worker c.args.entry c.requires.runs c.requires.place).run runs in
    kept-after s e c.step.new.self c.push_reserved.new.self.items q.engine.named c.go_on.new.engine.named q.engine.boot c.go_on.new.engine.boot q.queue.phases (set q.queue.phases c.args.entry c.in_ok-phase.phase) q.notes c.go_on.new.notes (vec_capacity q.history) (vec_capacity c.push_reserved.new.self) q.statuses.items (vec_capacity q.statuses) c.self.invariant
    (subst (λ (t : Standing). enabled (state t) e ≡ true) (sym c.self.view_is) (may-step (state c.args.self.now) c.args.worker c.requires.runs))
    (stepped-on _ _ _ _ _ _ _ _ c.self.invariant _ c.self.view_is c.args.worker c.args.entry c.requires.runs c.requires.place p c.run_at-run.result c.go_on.new.engine.named c.in_ok-phase.phase c.go_on.new.notes at ran c.in_ok-phase.ensures.gone)
    c.in_ok-phase.ensures.boot (length-set q.queue.phases c.args.entry c.in_ok-phase.phase)
    (same-many-notes _ _ _ _ _ _ _ _ c.self.invariant _ c.self.view_is c.args.worker c.args.entry c.requires.runs c.requires.place p c.run_at-run.result c.go_on.new.engine.named c.in_ok-phase.phase c.go_on.new.notes at c.in_ok-phase.ensures.gone)
    c.push_reserved.ensures.capacity c.step.ensures c.push_reserved.ensures.items

pub returns-clause-ran : goal.returns-clause-ran
returns-clause-ran c =
    let q = c.self.inside in
    let s : Standing = record { opening = q.opening.now; boot = q.boot.now; plan = q.queue.plan; history = q.history.items } in
    seen-after s _ (Step c.args.worker) c.step.new.self _ c.push_reserved.new.self.items c.self.view_is c.step.ensures c.push_reserved.ensures.items
