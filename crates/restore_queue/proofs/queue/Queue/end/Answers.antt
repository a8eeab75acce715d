use Rattle.std.proofs.Common.{◌≡◌, ℕ, ◌*◌, ◌<◌, ◌≤◌, List, length, Some, refl, ap, sym, subst, ◌∙◌}
use Rattle.std.proofs.Math.ListN.{set}
use Rattle.std.specs.Global.{Vec}
use Rattle.std.specs.List.{slice_get}
use Rattle.std.proofs.lemmas.List.{length-set}
use Rattle.std.proofs.lemmas.Option.{slice_get_within}
use Rattle.restore_core.specs.declared.phase.Phase.TheVariants.{Running}
use Rattle.restore_queue.specs.Indexed.{block}
use Rattle.restore_queue.specs.Queues.{AreBehind, Lined}
use Rattle.restore_queue.proofs.Indexing.{ended-waits, told-ended}
use Rattle.restore_queue.proofs.Meets.{marked-still, met-nearly}
use Rattle.restore_queue.proofs.Same.{marked-same, met-same, nearly-same}
use Rattle.restore_queue.proofs.queue.Queue.end.Goals as goal

pub set_phase-requires : goal.set_phase-requires
set_phase-requires c =
    slice_get_within c.self.inside.phases.items c.args.entry (Running c.args.worker c.requires.runs.0) (ap (λ (l : Lined). slice_get l.phases c.args.entry) c.self.view_is ∙ c.requires.runs.1)

pub set_running-requires : goal.set_running-requires
set_running-requires c =
    let q = c.self.inside in
    let was : slice_get q.phases.items c.args.entry ≡ Some (Running c.args.worker c.requires.runs.0) = ap (λ (l : Lined). slice_get l.phases c.args.entry) c.self.view_is ∙ c.requires.runs.1 in
    slice_get_within q.running.items c.args.worker (Some c.args.entry) (c.self.invariant.kept.running_all.is_run c.args.worker c.args.entry c.requires.runs.0 was)

pub meet_behind-requires : goal.meet_behind-requires
meet_behind-requires c =
    let q = c.self.inside in
    let i = c.args.entry in
    let was : slice_get q.phases.items i ≡ Some (Running c.args.worker c.requires.runs.0) = ap (λ (l : Lined). slice_get l.phases i) c.self.view_is ∙ c.requires.runs.1 in
    let less = slice_get_within q.phases.items i (Running c.args.worker c.requires.runs.0) was in
    let ef : c.deref.result.now ≡ set q.phases.items i c.args.phase = c.deref.ensures.value ∙ c.set_phase.ensures in
    let ew : c.deref-2.result.now ≡ q.waits.items = c.deref-2.ensures.value in
    let many : length c.deref.result.now ≡ length q.plan.now = ap length ef ∙ length-set q.phases.items i c.args.phase ∙ c.self.invariant.many_phases in
    record {
      many_waits = ap length ew ∙ c.self.invariant.kept.many_waits ∙ sym many;
      many_met = c.self.invariant.kept.many_met ∙ sym many;
      many_marks = subst (λ (n : ℕ). n ≤ length q.marks.items * block) (sym many) c.self.invariant.many_marks;
      nearly = nearly-same _ _ q.waits.items _ q.met.items i ef ew (met-nearly q.phases.items c.args.phase q.waits.items q.met.items i less c.requires.ended c.self.invariant.kept.met_all);
      behind = subst (λ (w : List (Vec ℕ)). AreBehind w c.deref-3.result.now) (sym ew) (subst (λ (b : List (Vec ℕ)). AreBehind q.waits.items b) (sym c.deref-3.ensures.value) c.self.invariant.behind_all);
      there = subst (λ (n : ℕ). i < n) (sym (ap length c.deref-3.ensures.value ∙ c.self.invariant.many_behind ∙ sym c.self.invariant.many_phases)) less;
      marked = marked-same _ _ q.waits.items _ q.met.items _ q.marks.items _ ef ew refl refl (marked-still q.phases.items c.args.phase q.waits.items q.met.items q.marks.items i less (ended-waits c.args.phase c.requires.ended) c.self.invariant.kept.marked);
    }

pub invariant_of-self : goal.invariant_of-self
invariant_of-self c =
    let q = c.self.inside in
    let i = c.args.entry in
    let was : slice_get q.phases.items i ≡ Some (Running c.args.worker c.requires.runs.0) = ap (λ (l : Lined). slice_get l.phases i) c.self.view_is ∙ c.requires.runs.1 in
    let all = met-same _ c.set_phase.new.phases.items _ q.waits.items c.meet_behind.new.met.items (sym c.deref.ensures.value) (sym c.deref-2.ensures.value) c.meet_behind.ensures.met in
    let marked = marked-same _ c.set_phase.new.phases.items _ q.waits.items c.meet_behind.new.met.items _ c.meet_behind.new.marks.items _ (sym c.deref.ensures.value) (sym c.deref-2.ensures.value) refl refl c.meet_behind.ensures.marked in
    told-ended q.plan.now q.phases.items c.set_phase.new.phases.items q.waits.items q.behind.items q.met.items c.meet_behind.new.met.items q.marks.items c.meet_behind.new.marks.items q.running.items c.set_running.new.running.items c.args.worker i c.requires.runs.0 c.args.phase c.self.invariant was c.requires.ended c.set_phase.ensures c.set_running.ensures c.meet_behind.ensures.len_met all marked c.meet_behind.ensures.len_marks
