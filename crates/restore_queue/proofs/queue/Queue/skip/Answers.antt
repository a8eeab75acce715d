use Rattle.std.proofs.Common.{◌≡◌, ℕ, ◌*◌, ◌<◌, ◌≤◌, List, length, Some, refl, ap, sym, subst, ◌∙◌}
use Rattle.std.proofs.Math.ListN.{set}
use Rattle.std.specs.Global.{Vec}
use Rattle.std.specs.List.{slice_get}
use Rattle.std.proofs.lemmas.List.{length-set}
use Rattle.std.proofs.lemmas.Option.{slice_get_within}
use Rattle.restore_core.specs.declared.phase.Phase.TheVariants.{Ended, Waiting}
use Rattle.restore_plan.specs.declared.status.EntryStatus.TheVariants.{Skipped}
use Rattle.restore_queue.specs.Indexed.{block}
use Rattle.restore_queue.specs.Queues.{AreBehind, Lined}
use Rattle.restore_queue.proofs.Indexing.{told-skipped}
use Rattle.restore_queue.proofs.Meets.{marked-still, met-nearly}
use Rattle.restore_queue.proofs.Same.{marked-same, met-same, nearly-same}
use Rattle.restore_queue.proofs.queue.Queue.skip.Goals as goal

pub set_phase-requires : goal.set_phase-requires
set_phase-requires c =
    slice_get_within c.self.inside.phases.items c.args.entry Waiting (ap (λ (l : Lined). slice_get l.phases c.args.entry) c.self.view_is ∙ c.requires)

pub meet_behind-requires : goal.meet_behind-requires
meet_behind-requires c =
    let q = c.self.inside in
    let i = c.args.entry in
    let was : slice_get q.phases.items i ≡ Some Waiting = ap (λ (l : Lined). slice_get l.phases i) c.self.view_is ∙ c.requires in
    let less = slice_get_within q.phases.items i Waiting was in
    let ef : c.deref.result.now ≡ set q.phases.items i (Ended (Skipped c.args.by)) = c.deref.ensures.value ∙ c.set_phase.ensures in
    let ew : c.deref-2.result.now ≡ q.waits.items = c.deref-2.ensures.value in
    let many : length c.deref.result.now ≡ length q.plan.now = ap length ef ∙ length-set q.phases.items i (Ended (Skipped c.args.by)) ∙ c.self.invariant.many_phases in
    record {
      many_waits = ap length ew ∙ c.self.invariant.kept.many_waits ∙ sym many;
      many_met = c.self.invariant.kept.many_met ∙ sym many;
      many_marks = subst (λ (n : ℕ). n ≤ length q.marks.items * block) (sym many) c.self.invariant.many_marks;
      nearly = nearly-same _ _ q.waits.items _ q.met.items i ef ew (met-nearly q.phases.items (Ended (Skipped c.args.by)) q.waits.items q.met.items i less refl c.self.invariant.kept.met_all);
      behind = subst (λ (w : List (Vec ℕ)). AreBehind w c.deref-3.result.now) (sym ew) (subst (λ (b : List (Vec ℕ)). AreBehind q.waits.items b) (sym c.deref-3.ensures.value) c.self.invariant.behind_all);
      there = subst (λ (n : ℕ). i < n) (sym (ap length c.deref-3.ensures.value ∙ c.self.invariant.many_behind ∙ sym c.self.invariant.many_phases)) less;
      marked = marked-same _ _ q.waits.items _ q.met.items _ q.marks.items _ ef ew refl refl (marked-still q.phases.items (Ended (Skipped c.args.by)) q.waits.items q.met.items q.marks.items i less refl c.self.invariant.kept.marked);
    }

pub mark_anew-requires : goal.mark_anew-requires
mark_anew-requires c =
    let q = c.self.inside in
    let met = marked-same _ c.set_phase.new.phases.items _ q.waits.items c.meet_behind.new.met.items _ c.meet_behind.new.marks.items _ (sym c.deref.ensures.value) (sym c.deref-2.ensures.value) refl refl c.meet_behind.ensures.marked in
    marked-same c.set_phase.new.phases.items _ q.waits.items _ c.meet_behind.new.met.items _ c.meet_behind.new.marks.items _ c.deref-4.ensures.value c.deref-5.ensures.value c.deref-6.ensures.value refl met

pub invariant_of-self : goal.invariant_of-self
invariant_of-self c =
    let q = c.self.inside in
    let i = c.args.entry in
    let was : slice_get q.phases.items i ≡ Some Waiting = ap (λ (l : Lined). slice_get l.phases i) c.self.view_is ∙ c.requires in
    let all = met-same _ c.set_phase.new.phases.items _ q.waits.items c.meet_behind.new.met.items (sym c.deref.ensures.value) (sym c.deref-2.ensures.value) c.meet_behind.ensures.met in
    let marked = marked-same _ c.set_phase.new.phases.items _ q.waits.items _ c.meet_behind.new.met.items _ c.mark_anew.new.marks.items (sym c.deref-4.ensures.value) (sym c.deref-5.ensures.value) (sym c.deref-6.ensures.value) refl c.mark_anew.ensures.marked in
    told-skipped q.plan.now q.phases.items c.set_phase.new.phases.items q.waits.items q.behind.items q.met.items c.meet_behind.new.met.items q.marks.items c.mark_anew.new.marks.items q.running.items i (Skipped c.args.by) c.self.invariant was c.set_phase.ensures c.meet_behind.ensures.len_met all marked (c.mark_anew.ensures.len ∙ c.meet_behind.ensures.len_marks)
