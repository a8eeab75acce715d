-- All that a queue keeps, where none has begun, and where an entry starts, goes on, is skipped or ends.
use Rattle.std.proofs.Common.{◌≡◌, ℕ, suc, ◌+◌, ◌*◌, ◌/◌, ◌<◌, ◌≤◌, Bool, true, false, List, [], ◌∷◌, length, replicate, Option, Some, None, refl, ap, sym, subst, ◌∙◌, arith}
use Rattle.std.proofs.Math.ListN.{set}
use Rattle.std.specs.Global.{Vec}
use Rattle.std.specs.List.{list_any, slice_get}
use Rattle.std.proofs.lemmas.List.{length-replicate, length-set}
use Rattle.restore_plan.specs.declared.planned.Planned.{Planned}
use Rattle.restore_plan.specs.declared.status.EntryStatus.{EntryStatus}
use Rattle.restore_core.specs.declared.phase.Phase.{Phase}
use Rattle.restore_core.specs.declared.phase.Phase.TheVariants.{Waiting, Running, Ended}
use Rattle.restore_core.specs.Phases.{has_ended, is_run_by, is_waiting}
use Rattle.restore_core.proofs.Booleans.{both_ways, number_itself}
use Rattle.restore_queue.specs.Indexed.{AllMet, AreMarked, AreRunning, Kept, block}
use Rattle.restore_queue.specs.Nexts.{IsNext}
use Rattle.restore_queue.specs.Queues.{AreBehind, Indexed}
use Rattle.restore_queue.specs.Ready.{AllWaited}
use Rattle.restore_queue.specs.Workers.{entry_in, is_any}
use Rattle.restore_queue.proofs.Begun.{all-marked, begun}
use Rattle.restore_queue.proofs.Moves.{ended, gone-on, skipped, started}
use Rattle.restore_queue.proofs.Ready.{any-at}
use Rattle.restore_queue.proofs.Workers.{some-in}

-- ---- none has begun

pub enough : (many : ℕ) → many ≤ (many / block + 1) * block
enough many = omega arith

pub marked-first : (waits : List (Vec ℕ)) (phases : List Phase) (met : List ℕ) (marks : List Bool) (many : ℕ) → phases ≡ replicate many Waiting → marks ≡ replicate (many / block + 1) true → AreMarked phases waits met marks
marked-first waits phases met marks many ep em =
    subst (λ (f : List Phase). AreMarked f waits met marks) (sym ep)
    (subst (λ (k : List Bool). AreMarked (replicate many Waiting) waits met k) (sym em) (all-marked waits met many (many / block + 1) (enough many)))

pub indexed-first : (plan : List Planned) (phases : List Phase) (waits behind : List (Vec ℕ)) (met : List ℕ) (marks : List Bool) (running : List (Option ℕ)) → AllWaited plan waits → length waits ≡ length plan → phases ≡ replicate (length plan) Waiting → met ≡ replicate (length plan) 0 → running ≡ replicate 64 None → AreMarked phases waits met marks → length marks ≡ length plan / block + 1 → length behind ≡ length waits → AreBehind waits behind → Indexed plan phases waits behind met marks running
indexed-first plan phases waits behind met marks running waited many ep em er marked lm lb all = record {
  kept = record {
    many_waits = many;
    many_met = ap length em ∙ length-replicate (length plan) 0;
    waited = waited;
    met_all =
        subst (λ (f : List Phase). AllMet f waits met) (sym ep)
        (subst (λ (m : List ℕ). AllMet (replicate (length plan) Waiting) waits m) (sym em) first.met_all);
    marked = marked;
    running_all =
        subst (λ (f : List Phase). AreRunning f running) (sym ep)
        (subst (λ (r : List (Option ℕ)). AreRunning (replicate (length plan) Waiting) r) (sym er) first.running_all);
  };
  many_phases = ap length ep ∙ length-replicate (length plan) Waiting;
  many_behind = lb ∙ many;
  many_marks = subst (λ (n : ℕ). length plan ≤ n * block) (sym lm) (enough (length plan));
  behind_all = all;
}
  where
    first : Kept plan (replicate (length plan) Waiting) waits (replicate (length plan) 0) (replicate (length plan / block + 1) true) (replicate 64 None)
    first = begun plan waits (length plan / block + 1) waited many (enough (length plan))

-- ---- one entry changes

-- a worker that runs no entry
free-in : (phases : List Phase) (running : List (Option ℕ)) (worker : ℕ) → AreRunning phases running → list_any (is_run_by worker) phases ≡ false → entry_in running worker ≡ None
free-in phases running worker all none = at (entry_in running worker) refl
  where
    at : (o : Option ℕ) → entry_in running worker ≡ o → entry_in running worker ≡ None
    at None e = e
    at (Some i) e =
        let r = all.runs worker i (some-in (slice_get running worker) i e) in
        absurd (both_ways (list_any (is_run_by worker) phases) (any-at (is_run_by worker) phases i (Running worker r.0) r.1 (number_itself worker)) none)

pub indexed-started : (plan : List Planned) (phases : List Phase) (waits behind : List (Vec ℕ)) (met : List ℕ) (marks marks' : List Bool) (running : List (Option ℕ)) (worker i : ℕ) → Indexed plan phases waits behind met marks running → worker < 64 → slice_get phases i ≡ Some Waiting → list_any (is_run_by worker) phases ≡ false → AreMarked (set phases i (Running worker 0)) waits met marks' → length marks' ≡ length marks → Indexed plan (set phases i (Running worker 0)) waits behind met marks' (set running worker (Some i))
indexed-started plan phases waits behind met marks marks' running worker i q small waiting none marked lm =
    let k = started plan phases waits met marks running worker i q.kept small waiting (free-in phases running worker q.kept.running_all none) in
    record {
      kept = record { many_waits = k.many_waits; many_met = k.many_met; waited = k.waited; met_all = k.met_all; marked = marked; running_all = k.running_all };
      many_phases = length-set phases i (Running worker 0) ∙ q.many_phases;
      many_behind = q.many_behind;
      many_marks = subst (λ (n : ℕ). length plan ≤ n * block) (sym lm) q.many_marks;
      behind_all = q.behind_all;
    }

pub indexed-on : (plan : List Planned) (phases : List Phase) (waits behind : List (Vec ℕ)) (met : List ℕ) (marks : List Bool) (running : List (Option ℕ)) (worker i run next : ℕ) → Indexed plan phases waits behind met marks running → slice_get phases i ≡ Some (Running worker run) → Indexed plan (set phases i (Running worker next)) waits behind met marks running
indexed-on plan phases waits behind met marks running worker i run next q was = record {
  kept = gone-on plan phases waits met marks running worker i run next q.kept was;
  many_phases = length-set phases i (Running worker next) ∙ q.many_phases;
  many_behind = q.many_behind;
  many_marks = q.many_marks;
  behind_all = q.behind_all;
}

pub indexed-ended : (plan : List Planned) (phases : List Phase) (waits behind : List (Vec ℕ)) (met met' : List ℕ) (marks marks' : List Bool) (running : List (Option ℕ)) (worker i run : ℕ) (status : EntryStatus) → Indexed plan phases waits behind met marks running → slice_get phases i ≡ Some (Running worker run) → length met' ≡ length met → AllMet (set phases i (Ended status)) waits met' → AreMarked (set phases i (Ended status)) waits met' marks' → length marks' ≡ length marks → Indexed plan (set phases i (Ended status)) waits behind met' marks' (set running worker None)
indexed-ended plan phases waits behind met met' marks marks' running worker i run status q was le all marked lm = record {
  kept = ended plan phases waits met met' marks marks' running worker i run status q.kept was le all marked;
  many_phases = length-set phases i (Ended status) ∙ q.many_phases;
  many_behind = q.many_behind;
  many_marks = subst (λ (n : ℕ). length plan ≤ n * block) (sym lm) q.many_marks;
  behind_all = q.behind_all;
}

pub indexed-skipped : (plan : List Planned) (phases : List Phase) (waits behind : List (Vec ℕ)) (met met' : List ℕ) (marks marks' : List Bool) (running : List (Option ℕ)) (i : ℕ) (status : EntryStatus) → Indexed plan phases waits behind met marks running → slice_get phases i ≡ Some Waiting → length met' ≡ length met → AllMet (set phases i (Ended status)) waits met' → AreMarked (set phases i (Ended status)) waits met' marks' → length marks' ≡ length marks → Indexed plan (set phases i (Ended status)) waits behind met' marks' running
indexed-skipped plan phases waits behind met met' marks marks' running i status q was le all marked lm = record {
  kept = skipped plan phases waits met met' marks marks' running i status q.kept was le all marked;
  many_phases = length-set phases i (Ended status) ∙ q.many_phases;
  many_behind = q.many_behind;
  many_marks = subst (λ (n : ℕ). length plan ≤ n * block) (sym lm) q.many_marks;
  behind_all = q.behind_all;
}

pub ended-waits : (p : Phase) → has_ended p ≡ true → is_waiting p ≡ false
ended-waits Waiting is = absurd (both_ways false is refl)
ended-waits (Running w r) is = refl
ended-waits (Ended status) is = refl

-- ---- the same for lists as they are told

pub told-started : (plan : List Planned) (phases phases' : List Phase) (waits behind : List (Vec ℕ)) (met : List ℕ) (marks marks' : List Bool) (running running' : List (Option ℕ)) (worker i : ℕ) → Indexed plan phases waits behind met marks running → worker < 64 → slice_get phases i ≡ Some Waiting → list_any (is_run_by worker) phases ≡ false → phases' ≡ set phases i (Running worker 0) → running' ≡ set running worker (Some i) → AreMarked phases' waits met marks' → length marks' ≡ length marks → Indexed plan phases' waits behind met marks' running'
told-started plan phases phases' waits behind met marks marks' running running' worker i q small waiting none ef er marked lm =
    subst (λ (f : List Phase). Indexed plan f waits behind met marks' running') (sym ef)
    (subst (λ (r : List (Option ℕ)). Indexed plan (set phases i (Running worker 0)) waits behind met marks' r) (sym er)
    (indexed-started plan phases waits behind met marks marks' running worker i q small waiting none (subst (λ (f : List Phase). AreMarked f waits met marks') ef marked) lm))

pub told-ended : (plan : List Planned) (phases phases' : List Phase) (waits behind : List (Vec ℕ)) (met met' : List ℕ) (marks marks' : List Bool) (running running' : List (Option ℕ)) (worker i run : ℕ) (p : Phase) → Indexed plan phases waits behind met marks running → slice_get phases i ≡ Some (Running worker run) → has_ended p ≡ true → phases' ≡ set phases i p → running' ≡ set running worker None → length met' ≡ length met → AllMet phases' waits met' → AreMarked phases' waits met' marks' → length marks' ≡ length marks → Indexed plan phases' waits behind met' marks' running'
told-ended plan phases phases' waits behind met met' marks marks' running running' worker i run Waiting q was is ef er le all marked lm = absurd (both_ways false is refl)
told-ended plan phases phases' waits behind met met' marks marks' running running' worker i run (Running w r) q was is ef er le all marked lm = absurd (both_ways false is refl)
told-ended plan phases phases' waits behind met met' marks marks' running running' worker i run (Ended status) q was is ef er le all marked lm =
    subst (λ (f : List Phase). Indexed plan f waits behind met' marks' running') (sym ef)
    (subst (λ (r : List (Option ℕ)). Indexed plan (set phases i (Ended status)) waits behind met' marks' r) (sym er)
    (indexed-ended plan phases waits behind met met' marks marks' running worker i run status q was le (subst (λ (f : List Phase). AllMet f waits met') ef all) (subst (λ (f : List Phase). AreMarked f waits met' marks') ef marked) lm))

pub told-on : (plan : List Planned) (phases phases' : List Phase) (waits behind : List (Vec ℕ)) (met : List ℕ) (marks : List Bool) (running : List (Option ℕ)) (worker i run : ℕ) (p : Phase) → Indexed plan phases waits behind met marks running → slice_get phases i ≡ Some (Running worker run) → IsNext worker p → has_ended p ≡ false → phases' ≡ set phases i p → Indexed plan phases' waits behind met marks running
told-on plan phases phases' waits behind met marks running worker i run Waiting q was next is ef = absurd next
told-on plan phases phases' waits behind met marks running worker i run (Ended status) q was next is ef = absurd (both_ways true refl is)
told-on plan phases phases' waits behind met marks running worker i run (Running w r) q was next is ef =
    subst (λ (f : List Phase). Indexed plan f waits behind met marks running) (sym (ef ∙ ap (λ (v : ℕ). set phases i (Running v r)) next)) (indexed-on plan phases waits behind met marks running worker i run r q was)

pub told-skipped : (plan : List Planned) (phases phases' : List Phase) (waits behind : List (Vec ℕ)) (met met' : List ℕ) (marks marks' : List Bool) (running : List (Option ℕ)) (i : ℕ) (status : EntryStatus) → Indexed plan phases waits behind met marks running → slice_get phases i ≡ Some Waiting → phases' ≡ set phases i (Ended status) → length met' ≡ length met → AllMet phases' waits met' → AreMarked phases' waits met' marks' → length marks' ≡ length marks → Indexed plan phases' waits behind met' marks' running
told-skipped plan phases phases' waits behind met met' marks marks' running i status q was ef le all marked lm =
    subst (λ (f : List Phase). Indexed plan f waits behind met' marks' running) (sym ef)
    (indexed-skipped plan phases waits behind met met' marks marks' running i status q was le (subst (λ (f : List Phase). AllMet f waits met') ef all) (subst (λ (f : List Phase). AreMarked f waits met' marks') ef marked) lm)

-- ---- no worker runs an entry

pub none-any : (running : List (Option ℕ)) → ((w : ℕ) → w < length running → entry_in running w ≡ None) → list_any is_any running ≡ false
none-any [] none = refl
none-any (o ∷ os) none = at o (none 0 (omega arith)) (none-any os (λ w less. none (suc w) (omega arith)))
  where
    no : (j : ℕ) → ◌≡◌ {A = Option ℕ} (Some j) None → ⊥
    no j g = cc

    at : (x : Option ℕ) → x ≡ None → list_any is_any os ≡ false → list_any is_any (x ∷ os) ≡ false
    at None e rest = rest
    at (Some i) e rest = absurd (no i e)
