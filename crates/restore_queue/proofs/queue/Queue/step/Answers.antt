use Rattle.std.proofs.Common.{◌≡◌, Some, ap, sym, ◌∙◌}
use Rattle.std.specs.List.{slice_get}
use Rattle.std.proofs.lemmas.Option.{slice_get_within}
use Rattle.restore_core.specs.declared.phase.Phase.TheVariants.{Running}
use Rattle.restore_queue.specs.Queues.{Lined}
use Rattle.restore_queue.proofs.Indexing.{told-on}
use Rattle.restore_queue.proofs.queue.Queue.step.Goals as goal

pub set_phase-requires : goal.set_phase-requires
set_phase-requires c =
    slice_get_within c.self.inside.phases.items c.args.entry (Running c.args.worker c.requires.runs.0) (ap (λ (l : Lined). slice_get l.phases c.args.entry) c.self.view_is ∙ c.requires.runs.1)

pub invariant_of-self : goal.invariant_of-self
invariant_of-self c =
    let q = c.self.inside in
    let was : slice_get q.phases.items c.args.entry ≡ Some (Running c.args.worker c.requires.runs.0) = ap (λ (l : Lined). slice_get l.phases c.args.entry) c.self.view_is ∙ c.requires.runs.1 in
    told-on q.plan.now q.phases.items c.set_phase.new.phases.items q.waits.items q.behind.items q.met.items q.marks.items q.running.items c.args.worker c.args.entry c.requires.runs.0 c.args.phase c.self.invariant was c.requires.next (sym c.has_ended.ensures ∙ c.if-has_ended.false) c.set_phase.ensures
