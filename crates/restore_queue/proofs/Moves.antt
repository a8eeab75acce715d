-- All that is kept, where an entry starts, goes on, is skipped or ends.
use Rattle.std.proofs.Common.{◌≡◌, ℕ, ◌<◌, Bool, true, false, List, length, Option, Some, None, refl, ap, ◌∙◌}
use Rattle.std.proofs.Math.ListN.{set}
use Rattle.std.specs.Global.{Vec}
use Rattle.std.specs.List.{slice_get}
use Rattle.std.specs.Option.{option_map_or}
use Rattle.std.proofs.lemmas.Option.{slice_get_within}
use Rattle.restore_plan.specs.declared.planned.Planned.{Planned}
use Rattle.restore_plan.specs.declared.status.EntryStatus.{EntryStatus}
use Rattle.restore_core.specs.declared.phase.Phase.{Phase}
use Rattle.restore_core.specs.declared.phase.Phase.TheVariants.{Waiting, Running, Ended}
use Rattle.restore_core.specs.Phases.{has_ended}
use Rattle.restore_queue.specs.Indexed.{AllMet, AreMarked, Kept}
use Rattle.restore_queue.specs.Ready.{ended_in}
use Rattle.restore_queue.specs.Workers.{entry_in}
use Rattle.restore_queue.proofs.Meets.{marked-still, met-still}
use Rattle.restore_queue.proofs.Runs.{running-ended, running-on, running-skipped, running-started}

-- the entry in this place hasn't ended
going : (phases : List Phase) (i : ℕ) (p : Phase) → slice_get phases i ≡ Some p → has_ended p ≡ false → ended_in phases i ≡ false
going phases i p at is = ap (λ (o : Option Phase). option_map_or has_ended o true) at ∙ is

pub started : (plan : List Planned) (phases : List Phase) (waits : List (Vec ℕ)) (met : List ℕ) (marks : List Bool) (running : List (Option ℕ)) (worker i : ℕ) → Kept plan phases waits met marks running → worker < 64 → slice_get phases i ≡ Some Waiting → entry_in running worker ≡ None → Kept plan (set phases i (Running worker 0)) waits met marks (set running worker (Some i))
started plan phases waits met marks running worker i q small waiting none =
    let less = slice_get_within phases i Waiting waiting in
    record {
      many_waits = q.many_waits;
      many_met = q.many_met;
      waited = q.waited;
      met_all = met-still phases (Running worker 0) waits met i less refl (going phases i Waiting waiting refl) q.met_all;
      marked = marked-still phases (Running worker 0) waits met marks i less refl q.marked;
      running_all = running-started phases running worker i q.running_all small waiting less none;
    }

pub gone-on : (plan : List Planned) (phases : List Phase) (waits : List (Vec ℕ)) (met : List ℕ) (marks : List Bool) (running : List (Option ℕ)) (worker i run next : ℕ) → Kept plan phases waits met marks running → slice_get phases i ≡ Some (Running worker run) → Kept plan (set phases i (Running worker next)) waits met marks running
gone-on plan phases waits met marks running worker i run next q was =
    let less = slice_get_within phases i (Running worker run) was in
    record {
      many_waits = q.many_waits;
      many_met = q.many_met;
      waited = q.waited;
      met_all = met-still phases (Running worker next) waits met i less refl (going phases i (Running worker run) was refl) q.met_all;
      marked = marked-still phases (Running worker next) waits met marks i less refl q.marked;
      running_all = running-on phases running worker i run next q.running_all was less;
    }

pub ended : (plan : List Planned) (phases : List Phase) (waits : List (Vec ℕ)) (met met' : List ℕ) (marks marks' : List Bool) (running : List (Option ℕ)) (worker i run : ℕ) (status : EntryStatus) → Kept plan phases waits met marks running → slice_get phases i ≡ Some (Running worker run) → length met' ≡ length met → AllMet (set phases i (Ended status)) waits met' → AreMarked (set phases i (Ended status)) waits met' marks' → Kept plan (set phases i (Ended status)) waits met' marks' (set running worker None)
ended plan phases waits met met' marks marks' running worker i run status q was many all marked = record {
  many_waits = q.many_waits;
  many_met = many ∙ q.many_met;
  waited = q.waited;
  met_all = all;
  marked = marked;
  running_all = running-ended phases running worker i run status q.running_all was (slice_get_within phases i (Running worker run) was);
}

pub skipped : (plan : List Planned) (phases : List Phase) (waits : List (Vec ℕ)) (met met' : List ℕ) (marks marks' : List Bool) (running : List (Option ℕ)) (i : ℕ) (status : EntryStatus) → Kept plan phases waits met marks running → slice_get phases i ≡ Some Waiting → length met' ≡ length met → AllMet (set phases i (Ended status)) waits met' → AreMarked (set phases i (Ended status)) waits met' marks' → Kept plan (set phases i (Ended status)) waits met' marks' running
skipped plan phases waits met met' marks marks' running i status q was many all marked = record {
  many_waits = q.many_waits;
  many_met = many ∙ q.many_met;
  waited = q.waited;
  met_all = all;
  marked = marked;
  running_all = running-skipped phases running i status q.running_all was (slice_get_within phases i Waiting was);
}
