use Rattle.std.proofs.Common.{◌≡◌, ℕ, ◌+◌, ◌/◌, true, List, length, refl, ap, sym, subst, ◌∙◌}
use Rattle.std.specs.Global.{Vec}
use Rattle.std.proofs.lemmas.List.{length-replicate}
use Rattle.restore_queue.specs.Indexed.{block}
use Rattle.restore_queue.specs.Queues.{AreBehind}
use Rattle.restore_queue.proofs.Indexing.{indexed-first, marked-first}
use Rattle.restore_queue.proofs.Same.{marked-same}
use Rattle.restore_queue.proofs.queue.Queue.new.Goals as goal

pub mark_all-requires : goal.mark_all-requires
mark_all-requires c =
    marked-same c.in_ok-phases.phases.items _ c.args.waits.items _ c.in_ok-met.met.items _ c.in_ok-marks.marks.items _ c.deref.ensures.value c.deref-2.ensures.value c.deref-3.ensures.value refl
    (marked-first c.args.waits.items c.in_ok-phases.phases.items c.in_ok-met.met.items c.in_ok-marks.marks.items (length c.args.plan.now) c.in_ok-phases.ensures c.in_ok-marks.ensures)

pub invariant_of-result : goal.invariant_of-result
invariant_of-result c =
    let marked = marked-same _ c.in_ok-phases.phases.items _ c.args.waits.items _ c.in_ok-met.met.items _ c.mark_all.new.marks.items (sym c.deref.ensures.value) (sym c.deref-2.ensures.value) (sym c.deref-3.ensures.value) refl c.mark_all.ensures.marked in
    let many : length c.mark_all.new.marks.items ≡ length c.args.plan.now / block + 1 = c.mark_all.ensures.len ∙ ap length c.in_ok-marks.ensures ∙ length-replicate (length c.args.plan.now / block + 1) true in
    indexed-first c.args.plan.now c.in_ok-phases.phases.items c.args.waits.items c.in_ok-behind.behind.items c.in_ok-met.met.items c.mark_all.new.marks.items c.in_ok-running.running.items c.requires.waited c.requires.many c.in_ok-phases.ensures c.in_ok-met.ensures c.in_ok-running.ensures marked many
    (c.in_ok-behind.ensures.len ∙ ap length c.as_slice.ensures.value)
    (subst (λ (w : List (Vec ℕ)). AreBehind w c.in_ok-behind.behind.items) c.as_slice.ensures.value c.in_ok-behind.ensures.behind)
