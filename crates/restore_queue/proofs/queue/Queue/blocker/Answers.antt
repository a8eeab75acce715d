use Rattle.std.proofs.Common.{ℕ, Option, None, length, ◌≤◌, ap, sym, subst, ◌∙◌}
use Rattle.std.specs.Global.{Vec}
use Rattle.std.specs.List.{slice_get}
use Rattle.std.specs.Option.{option_map_or}
use Rattle.std.proofs.lemmas.Option.{slice_get_past}
use Rattle.restore_queue.specs.Lined.{AreGoing}
use Rattle.restore_queue.specs.Queues.{Lined}
use Rattle.restore_queue.specs.Ready.{first_in}
use Rattle.restore_queue.proofs.Turns.{blocker-is}
use Rattle.restore_queue.proofs.queue.Queue.blocker.Goals as goal

pub returns-clause-past : goal.returns-clause-past
returns-clause-past c = λ past.
    let q = c.self.inside in
    let many : length c.as_slice-2.result.now ≤ c.args.entry = subst (λ (n : ℕ). n ≤ c.args.entry) (sym (ap length c.as_slice-2.ensures.value ∙ c.self.invariant.kept.many_waits)) (subst (λ (l : Lined). length l.plan ≤ c.args.entry) (sym c.self.view_is) past) in
    c.blocker_at.ensures
    ∙ ap (λ (o : Option (Vec ℕ)). option_map_or (λ (v : Vec ℕ). option_map_or (λ p. first_in q.plan.now c.as_slice.result.now v.items p.deps) (slice_get q.plan.now c.args.entry) None) o None) (slice_get_past c.as_slice-2.result.now c.args.entry many)

pub returns-clause-there : goal.returns-clause-there
returns-clause-there c = λ entries x are e.
    let q = c.self.inside in
    let are' = subst (λ (l : Lined). AreGoing l.plan l.phases entries) (sym c.self.view_is) are in
    let phases = c.as_slice.ensures.value in
    let waits = c.as_slice-2.ensures.value in
    c.blocker_at.ensures
    ∙ (λ j. option_map_or (λ (v : Vec ℕ). option_map_or (λ p. first_in q.plan.now (phases j) v.items p.deps) (slice_get q.plan.now c.args.entry) None) (slice_get (waits j) c.args.entry) None)
    ∙ blocker-is q.plan.now q.phases.items q.waits.items q.met.items q.marks.items q.running.items entries c.args.entry x are' c.self.invariant.kept e
