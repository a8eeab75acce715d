use Rattle.std.proofs.Common.{◌≡◌, ℕ, List, Option, is_none, ap, sym, subst, ◌∙◌}
use Rattle.restore_queue.specs.Lined.{AreGoing}
use Rattle.restore_queue.specs.Queues.{Lined}
use Rattle.restore_queue.specs.Workers.{entry_in}
use Rattle.restore_queue.proofs.Workers.{free-is, place-is}
use Rattle.restore_queue.proofs.queue.Queue.entry_of.Goals as goal

pub returns-clause-free : goal.returns-clause-free
returns-clause-free c = λ entries are.
    let q = c.self.inside in
    let are' = subst (λ (l : Lined). AreGoing l.plan l.phases entries) (sym c.self.view_is) are in
    let is : c.entry_in.result ≡ entry_in q.running.items c.args.worker = c.entry_in.ensures ∙ ap (λ (r : List (Option ℕ)). entry_in r c.args.worker) c.as_slice.ensures.value in
    free-is q.plan.now q.phases.items entries q.running.items c.args.worker are' c.self.invariant.kept.running_all ∙ ap is_none (sym is)

pub returns-clause-place : goal.returns-clause-place
returns-clause-place c = λ entries i are e.
    let q = c.self.inside in
    let are' = subst (λ (l : Lined). AreGoing l.plan l.phases entries) (sym c.self.view_is) are in
    let is : c.entry_in.result ≡ entry_in q.running.items c.args.worker = c.entry_in.ensures ∙ ap (λ (r : List (Option ℕ)). entry_in r c.args.worker) c.as_slice.ensures.value in
    place-is q.plan.now q.phases.items entries q.running.items c.args.worker i are' c.self.invariant.kept.running_all (sym is ∙ e)
