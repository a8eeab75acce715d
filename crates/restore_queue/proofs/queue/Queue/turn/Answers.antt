use Rattle.std.proofs.Common.{List, sym, subst}
use Rattle.restore_core.specs.declared.phase.Phase.{Phase}
use Rattle.restore_queue.specs.Lined.{AreGoing}
use Rattle.restore_queue.specs.Queues.{Lined}
use Rattle.restore_queue.proofs.Same.{kept-same}
use Rattle.restore_queue.proofs.queue.Queue.turn.Goals as goal

pub turn_of-requires-clause-kept : goal.turn_of-requires-clause-kept
turn_of-requires-clause-kept c =
    let q = c.self.inside in
    kept-same q.plan.now q.phases.items _ q.waits.items _ q.met.items _ q.marks.items _ q.running.items _ c.as_slice.ensures.value c.as_slice-2.ensures.value c.as_slice-3.ensures.value c.as_slice-4.ensures.value c.as_slice-5.ensures.value c.self.invariant.kept

pub returns : goal.returns
returns c = λ s are.
    let q = c.self.inside in
    c.turn_of.ensures s (subst (λ (ps : List Phase). AreGoing q.plan.now ps s.entries) (sym c.as_slice.ensures.value) (subst (λ (l : Lined). AreGoing l.plan l.phases s.entries) (sym c.self.view_is) are))
