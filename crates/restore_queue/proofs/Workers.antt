-- What the workers run says of the entries of a state.
use Rattle.std.proofs.Common.{◌≡◌, ℕ, Bool, true, false, not, ◌&&◌, List, Option, Some, None, is_none, refl, ap, sym, ◌∙◌}
use Rattle.std.specs.List.{list_any, slice_get}
use Rattle.std.specs.Option.{option_map_or}
use Rattle.restore_plan.specs.declared.planned.Planned.{Planned}
use Rattle.restore_plan.specs.Order.{clash}
use Rattle.restore_core.specs.declared.phase.Phase.{Phase}
use Rattle.restore_core.specs.declared.phase.Phase.TheVariants.{Waiting, Running, Ended}
use Rattle.restore_core.specs.Phases.{is_running, is_run_by}
use Rattle.restore_core.specs.Machine.{Going, is_free, locks_are_free, place_of}
use Rattle.restore_core.proofs.Booleans.{and_first, and_second, and_both, both_ways, same_number, number_itself}
use Rattle.restore_core.proofs.Kept.{Found, found}
use Rattle.restore_queue.specs.Lined.{AreGoing}
use Rattle.restore_queue.specs.Indexed.{AreRunning}
use Rattle.restore_queue.specs.Workers.{clash_in, entry_in, is_any}
use Rattle.restore_queue.proofs.Ready.{alike, Member, any-at, any-in, From, from-mapped, phase-of, plan-of}

run-as : (worker : ℕ) (p : Phase) → is_run_by worker p ≡ true → (run : ℕ) × (p ≡ Running worker run)
run-as worker Waiting h = absurd (both_ways false h refl)
run-as worker (Running v run) h = (run, ap (λ (n : ℕ). Running n run) (same_number v worker h))
run-as worker (Ended status) h = absurd (both_ways false h refl)

runs-as : (p : Phase) → is_running p ≡ true → (w : ℕ) × (run : ℕ) × (p ≡ Running w run)
runs-as Waiting h = absurd (both_ways false h refl)
runs-as (Running w run) h = (w, run, refl)
runs-as (Ended status) h = absurd (both_ways false h refl)

run-by : (worker : ℕ) (p : Phase) (run : ℕ) → p ≡ Running worker run → is_run_by worker p ≡ true
run-by worker p run e = ap (is_run_by worker) e ∙ number_itself worker

is-running : (p : Phase) (w run : ℕ) → p ≡ Running w run → is_running p ≡ true
is-running p w run e = ap is_running e

-- the entry in a place that has this phase
entry-at : (plan : List Planned) (phases : List Phase) (entries : List Going) → AreGoing plan phases entries → (i : ℕ) (p : Phase) → slice_get phases i ≡ Some p → From (λ (x : Going). x.phase) entries i p
entry-at plan phases entries are i p e = from-mapped (λ (x : Going). x.phase) entries i p (ap (λ (ps : List Phase). slice_get ps i) are.are ∙ e)

pub some-in : (o : Option (Option ℕ)) (i : ℕ) → option_map_or (λ entry. entry) o None ≡ Some i → o ≡ Some (Some i)
some-in None i e = cc
some-in (Some entry) i e = ap (λ (x : Option ℕ). Some x) e

none-or : (o : Option ℕ) → (o ≡ None → ⊥) → (i : ℕ) × (o ≡ Some i)
none-or None h = absurd (h refl)
none-or (Some i) h = (i, refl)

-- ---- what one worker runs

pub busy : (plan : List Planned) (phases : List Phase) (entries : List Going) (running : List (Option ℕ)) (worker i : ℕ) → AreGoing plan phases entries → AreRunning phases running → entry_in running worker ≡ Some i → list_any (λ x. is_run_by worker x.phase) entries ≡ true
busy plan phases entries running worker i are runs e =
    let r = runs.runs worker i (some-in (slice_get running worker) i e) in
    let x = entry-at plan phases entries are i (Running worker r.0) r.1 in
    any-at (λ (y : Going). is_run_by worker y.phase) entries i x.item x.at (run-by worker x.item.phase r.0 x.is)

pub idle : (plan : List Planned) (phases : List Phase) (entries : List Going) (running : List (Option ℕ)) (worker : ℕ) → AreGoing plan phases entries → AreRunning phases running → entry_in running worker ≡ None → list_any (λ x. is_run_by worker x.phase) entries ≡ false
idle plan phases entries running worker are runs e = by (list_any (λ x. is_run_by worker x.phase) entries) refl
  where
    by : (b : Bool) → list_any (λ x. is_run_by worker x.phase) entries ≡ b → b ≡ false
    by false h = refl
    by true h =
        let m : Member (λ (x : Going). is_run_by worker x.phase) entries = any-in (λ (x : Going). is_run_by worker x.phase) entries h in
        let r = run-as worker m.item.phase m.passes in
        let at : slice_get running worker ≡ Some (Some m.place) = runs.is_run worker m.place r.0 (phase-of plan phases entries are m.place m.item m.at ∙ ap (λ (p : Phase). Some p) r.1) in
        absurd (none (sym e ∙ ap (λ (o : Option (Option ℕ)). option_map_or (λ entry. entry) o None) at))
      where
        none : {j : ℕ} → None ≡ Some j → ⊥
        none g = cc

pub free-is : (plan : List Planned) (phases : List Phase) (entries : List Going) (running : List (Option ℕ)) (worker : ℕ) → AreGoing plan phases entries → AreRunning phases running → is_free worker entries ≡ is_none (entry_in running worker)
free-is plan phases entries running worker are runs = by (entry_in running worker) refl
  where
    by : (o : Option ℕ) → entry_in running worker ≡ o → is_free worker entries ≡ is_none o
    by None e = ap not (idle plan phases entries running worker are runs e)
    by (Some i) e = ap not (busy plan phases entries running worker i are runs e)

-- the place of its entry
pub place-is : (plan : List Planned) (phases : List Phase) (entries : List Going) (running : List (Option ℕ)) (worker i : ℕ) → AreGoing plan phases entries → AreRunning phases running → entry_in running worker ≡ Some i → place_of worker entries ≡ i
place-is plan phases entries running worker i are runs e =
    let f : Found (λ x. is_run_by worker x.phase) entries = found (λ x. is_run_by worker x.phase) entries (busy plan phases entries running worker i are runs e) in
    let k = place_of worker entries in
    let r = run-as worker f.entry.phase f.is in
    let at : slice_get running worker ≡ Some (Some k) = runs.is_run worker k r.0 (phase-of plan phases entries are k f.entry f.at ∙ ap (λ (p : Phase). Some p) r.1) in
    same k i (sym at ∙ some-in (slice_get running worker) i e)
  where
    same : (a b : ℕ) → ◌≡◌ {A = Option (Option ℕ)} (Some (Some a)) (Some (Some b)) → a ≡ b
    same a b g = cc

-- ---- what all of them run

pub any-runs-is : (plan : List Planned) (phases : List Phase) (entries : List Going) (running : List (Option ℕ)) → AreGoing plan phases entries → AreRunning phases running → list_any (λ x. is_running x.phase) entries ≡ list_any is_any running
any-runs-is plan phases entries running are runs =
    alike (list_any (λ x. is_running x.phase) entries) (list_any is_any running) to from
  where
    any-is : (o : Option ℕ) → is_any o ≡ true → (i : ℕ) × (o ≡ Some i)
    any-is None h = absurd (both_ways false h refl)
    any-is (Some i) h = (i, refl)

    to : list_any (λ x. is_running x.phase) entries ≡ true → list_any is_any running ≡ true
    to h =
        let m : Member (λ (x : Going). is_running x.phase) entries = any-in (λ (x : Going). is_running x.phase) entries h in
        let r = runs-as m.item.phase m.passes in
        any-at is_any running r.0 (Some m.place) (runs.is_run r.0 m.place r.1 (phase-of plan phases entries are m.place m.item m.at ∙ ap (λ (p : Phase). Some p) r.2)) refl

    from : list_any is_any running ≡ true → list_any (λ x. is_running x.phase) entries ≡ true
    from h =
        let m : Member is_any running = any-in is_any running h in
        let i = any-is m.item m.passes in
        let r = runs.runs m.place i.0 (m.at ∙ ap (λ (o : Option ℕ). Some o) i.1) in
        let x = entry-at plan phases entries are i.0 (Running m.place r.0) r.1 in
        any-at (λ (y : Going). is_running y.phase) entries i.0 x.item x.at (is-running x.item.phase m.place r.0 x.is)

pub locks-is : (plan : List Planned) (phases : List Phase) (entries : List Going) (running : List (Option ℕ)) (p : Planned) → AreGoing plan phases entries → AreRunning phases running → locks_are_free entries p ≡ not (list_any (clash_in plan p) running)
locks-is plan phases entries running p are runs =
    ap not (alike (list_any (λ x. is_running x.phase && clash p x.plan) entries) (list_any (clash_in plan p) running) to from)
  where
    to : list_any (λ x. is_running x.phase && clash p x.plan) entries ≡ true → list_any (clash_in plan p) running ≡ true
    to h =
        let m : Member (λ (x : Going). is_running x.phase && clash p x.plan) entries = any-in (λ (x : Going). is_running x.phase && clash p x.plan) entries h in
        let x = m.item in
        let r = runs-as x.phase (and_first (is_running x.phase) (clash p x.plan) m.passes) in
        any-at (clash_in plan p) running r.0 (Some m.place) (runs.is_run r.0 m.place r.1 (phase-of plan phases entries are m.place x m.at ∙ ap (λ (q : Phase). Some q) r.2))
        (ap (λ (o : Option Planned). option_map_or (clash p) o false) (plan-of plan phases entries are m.place x m.at) ∙ and_second (is_running x.phase) (clash p x.plan) m.passes)

    clashing : (o : Option ℕ) → clash_in plan p o ≡ true → (j : ℕ) × (o ≡ Some j)
    clashing None h = absurd (both_ways false h refl)
    clashing (Some j) h = (j, refl)

    from : list_any (clash_in plan p) running ≡ true → list_any (λ x. is_running x.phase && clash p x.plan) entries ≡ true
    from h =
        let m : Member (clash_in plan p) running = any-in (clash_in plan p) running h in
        let j = clashing m.item m.passes in
        let r = runs.runs m.place j.0 (m.at ∙ ap (λ (o : Option ℕ). Some o) j.1) in
        let x = entry-at plan phases entries are j.0 (Running m.place r.0) r.1 in
        let is : clash p x.item.plan ≡ true =
        ap (λ (o : Option Planned). option_map_or (clash p) o false) (sym (plan-of plan phases entries are j.0 x.item x.at)) ∙ ap (clash_in plan p) (sym j.1) ∙ m.passes in
        any-at (λ (y : Going). is_running y.phase && clash p y.plan) entries j.0 x.item x.at (and_both (is_running x.item.phase) (clash p x.item.plan) (is-running x.item.phase m.place r.0 x.is) is)
