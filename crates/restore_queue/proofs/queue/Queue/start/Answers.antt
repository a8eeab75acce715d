use Rattle.std.proofs.Common.{◌≡◌, ℕ, ◌<◌, false, Some, refl, ap, sym, subst, ◌∙◌}
use Rattle.std.specs.List.{list_any, slice_get}
use Rattle.std.proofs.lemmas.Option.{slice_get_within}
use Rattle.restore_core.specs.declared.phase.Phase.TheVariants.{Running, Waiting}
use Rattle.restore_core.specs.Phases.{is_run_by}
use Rattle.restore_queue.specs.Queues.{Lined}
use Rattle.restore_queue.proofs.Indexing.{told-started}
use Rattle.restore_queue.proofs.Meets.{marked-still}
use Rattle.restore_queue.proofs.Same.{marked-same}
use Rattle.restore_queue.proofs.queue.Queue.start.Goals as goal

pub set_phase-requires : goal.set_phase-requires
set_phase-requires c =
    slice_get_within c.self.inside.phases.items c.args.entry Waiting (ap (λ (l : Lined). slice_get l.phases c.args.entry) c.self.view_is ∙ c.requires.waits)

pub set_running-requires : goal.set_running-requires
set_running-requires c = subst (λ (n : ℕ). c.args.worker < n) (sym c.self.invariant.kept.running_all.many) c.requires.worker

pub mark_anew-requires : goal.mark_anew-requires
mark_anew-requires c =
    let q = c.self.inside in
    let waiting : slice_get q.phases.items c.args.entry ≡ Some Waiting = ap (λ (l : Lined). slice_get l.phases c.args.entry) c.self.view_is ∙ c.requires.waits in
    let still = marked-still q.phases.items (Running c.args.worker 0) q.waits.items q.met.items q.marks.items c.args.entry (slice_get_within q.phases.items c.args.entry Waiting waiting) refl c.self.invariant.kept.marked in
    marked-same _ _ q.waits.items _ q.met.items _ q.marks.items _ (c.deref.ensures.value ∙ c.set_phase.ensures) c.deref-2.ensures.value c.deref-3.ensures.value refl still

pub invariant_of-self : goal.invariant_of-self
invariant_of-self c =
    let q = c.self.inside in
    let waiting : slice_get q.phases.items c.args.entry ≡ Some Waiting = ap (λ (l : Lined). slice_get l.phases c.args.entry) c.self.view_is ∙ c.requires.waits in
    let free : list_any (is_run_by c.args.worker) q.phases.items ≡ false = ap (λ (l : Lined). list_any (is_run_by c.args.worker) l.phases) c.self.view_is ∙ c.requires.free in
    let marked = marked-same _ c.set_phase.new.phases.items _ q.waits.items _ q.met.items _ c.mark_anew.new.marks.items (sym c.deref.ensures.value) (sym c.deref-2.ensures.value) (sym c.deref-3.ensures.value) refl c.mark_anew.ensures.marked in
    told-started q.plan.now q.phases.items c.set_phase.new.phases.items q.waits.items q.behind.items q.met.items q.marks.items c.mark_anew.new.marks.items q.running.items c.set_running.new.running.items c.args.worker c.args.entry c.self.invariant c.requires.worker waiting free c.set_phase.ensures c.set_running.ensures marked c.mark_anew.ensures.len
