-- What the workers run, where an entry starts, goes on or ends.
use Rattle.std.proofs.Common.{◌≡◌, ◌⊎◌, inl, inr, ℕ, ◌<◌, List, length, Option, Some, None, ap, sym, subst, ◌∙◌}
use Rattle.std.proofs.Math.ListN.{set}
use Rattle.std.specs.List.{slice_get}
use Rattle.std.specs.Option.{option_map_or}
use Rattle.std.proofs.lemmas.Bool.{cases_eq}
use Rattle.std.proofs.lemmas.List.{length-set}
use Rattle.std.proofs.lemmas.Option.{slice_get_within}
use Rattle.restore_core.specs.declared.phase.Phase.{Phase}
use Rattle.restore_core.specs.declared.phase.Phase.TheVariants.{Waiting, Running, Ended}
use Rattle.restore_plan.specs.declared.status.EntryStatus.{EntryStatus}
use Rattle.restore_queue.specs.Indexed.{AreRunning}
use Rattle.restore_queue.specs.Workers.{entry_in}
use Rattle.restore_queue.proofs.Lists.{get-set, get-others, get-there}

same-place : (i j : ℕ) → ◌≡◌ {A = Option (Option ℕ)} (Some (Some i)) (Some (Some j)) → i ≡ j
same-place i j e = cc

no-place : (i : ℕ) → ◌≡◌ {A = Option (Option ℕ)} (Some None) (Some (Some i)) → ⊥
no-place i e = cc

not-waiting : (w run : ℕ) → ◌≡◌ {A = Option Phase} (Some Waiting) (Some (Running w run)) → ⊥
not-waiting w run e = cc

not-ended : (w run : ℕ) (status : EntryStatus) → ◌≡◌ {A = Option Phase} (Some (Ended status)) (Some (Running w run)) → ⊥
not-ended w run status e = cc

same-worker : (w v run n : ℕ) → ◌≡◌ {A = Option Phase} (Some (Running w run)) (Some (Running v n)) → w ≡ v
same-worker w v run n e = cc

-- a worker that runs none
free-at : (running : List (Option ℕ)) (worker : ℕ) → worker < length running → entry_in running worker ≡ None → slice_get running worker ≡ Some None
free-at running worker less e =
    let x = get-there running worker less in
    x.1 ∙ ap (λ (o : Option ℕ). Some o) (ap (λ (o : Option (Option ℕ)). option_map_or (λ entry. entry) o None) (sym x.1) ∙ e)

-- ---- one entry starts

pub running-started : (phases : List Phase) (running : List (Option ℕ)) (worker i : ℕ) → AreRunning phases running → worker < 64 → slice_get phases i ≡ Some Waiting → i < length phases → entry_in running worker ≡ None → AreRunning (set phases i (Running worker 0)) (set running worker (Some i))
running-started phases running worker i all small waits less e = record {
  many = length-set running worker (Some i) ∙ all.many;
  runs = λ w k at. runs w k (cases_eq w worker) at;
  is_run = λ w k run at. is_run w k run (cases_eq k i) at;
}
  where
    within : worker < length running
    within = subst (λ (n : ℕ). worker < n) (sym all.many) small

    was : slice_get running worker ≡ Some None
    was = free-at running worker within e

    phases' : List Phase
    phases' = set phases i (Running worker 0)

    running' : List (Option ℕ)
    running' = set running worker (Some i)

    old : (w k : ℕ) → slice_get running w ≡ Some (Some k) → (k ≡ i) ⊎ (k ≡ i → ⊥) → (run : ℕ) × (slice_get phases' k ≡ Some (Running w run))
    old w k at (inl same) =
        let r = all.runs w k at in
        absurd (not-waiting w r.0 (sym waits ∙ subst (λ (n : ℕ). slice_get phases n ≡ Some (Running w r.0)) same r.1))
    old w k at (inr other) = let r = all.runs w k at in (r.0, get-others phases i k (Running worker 0) other ∙ r.1)

    runs : (w k : ℕ) → (w ≡ worker) ⊎ (w ≡ worker → ⊥) → slice_get running' w ≡ Some (Some k) → (run : ℕ) × (slice_get phases' k ≡ Some (Running w run))
    runs w k (inl same) at =
        let is : i ≡ k = same-place i k (sym (get-set running worker (Some i) within) ∙ subst (λ (n : ℕ). slice_get running' n ≡ Some (Some k)) same at) in
        (0, subst (λ (n : ℕ). slice_get phases' n ≡ Some (Running w 0)) is (get-set phases i (Running worker 0) less ∙ ap (λ (n : ℕ). Some (Running n 0)) (sym same)))
    runs w k (inr other) at = old w k (sym (get-others running worker w (Some i) other) ∙ at) (cases_eq k i)

    before : (w k run : ℕ) → slice_get running w ≡ Some (Some k) → (w ≡ worker) ⊎ (w ≡ worker → ⊥) → slice_get running' w ≡ Some (Some k)
    before w k run at (inl same) = absurd (no-place k (sym was ∙ subst (λ (n : ℕ). slice_get running n ≡ Some (Some k)) same at))
    before w k run at (inr other) = get-others running worker w (Some i) other ∙ at

    is_run : (w k run : ℕ) → (k ≡ i) ⊎ (k ≡ i → ⊥) → slice_get phases' k ≡ Some (Running w run) → slice_get running' w ≡ Some (Some k)
    is_run w k run (inl same) at =
        let is : worker ≡ w = same-worker worker w 0 run (sym (get-set phases i (Running worker 0) less) ∙ subst (λ (n : ℕ). slice_get phases' n ≡ Some (Running w run)) same at) in
        subst (λ (n : ℕ). slice_get running' n ≡ Some (Some k)) is (get-set running worker (Some i) within ∙ ap (λ (n : ℕ). Some (Some n)) (sym same))
    is_run w k run (inr other) at = before w k run (all.is_run w k run (sym (get-others phases i k (Running worker 0) other) ∙ at)) (cases_eq w worker)

-- ---- one entry goes on

pub running-on : (phases : List Phase) (running : List (Option ℕ)) (worker i run next : ℕ) → AreRunning phases running → slice_get phases i ≡ Some (Running worker run) → i < length phases → AreRunning (set phases i (Running worker next)) running
running-on phases running worker i run next all was less =
    record { many = all.many; runs = λ w k at. runs w k at (cases_eq k i); is_run = λ w k n at. is_run w k n at (cases_eq k i) }
  where
    phases' : List Phase
    phases' = set phases i (Running worker next)

    runs : (w k : ℕ) → slice_get running w ≡ Some (Some k) → (k ≡ i) ⊎ (k ≡ i → ⊥) → (n : ℕ) × (slice_get phases' k ≡ Some (Running w n))
    runs w k at (inl same) =
        let r = all.runs w k at in
        let is : worker ≡ w = same-worker worker w run r.0 (sym was ∙ subst (λ (n : ℕ). slice_get phases n ≡ Some (Running w r.0)) same r.1) in
        (next, subst (λ (n : ℕ). slice_get phases' n ≡ Some (Running w next)) (sym same) (get-set phases i (Running worker next) less ∙ ap (λ (n : ℕ). Some (Running n next)) is))
    runs w k at (inr other) = let r = all.runs w k at in (r.0, get-others phases i k (Running worker next) other ∙ r.1)

    is_run : (w k n : ℕ) → slice_get phases' k ≡ Some (Running w n) → (k ≡ i) ⊎ (k ≡ i → ⊥) → slice_get running w ≡ Some (Some k)
    is_run w k n at (inl same) =
        let is : worker ≡ w = same-worker worker w next n (sym (get-set phases i (Running worker next) less) ∙ subst (λ (m : ℕ). slice_get phases' m ≡ Some (Running w n)) same at) in
        subst (λ (m : ℕ). slice_get running m ≡ Some (Some k)) is (all.is_run worker i run was ∙ ap (λ (m : ℕ). Some (Some m)) (sym same))
    is_run w k n at (inr other) = all.is_run w k n (sym (get-others phases i k (Running worker next) other) ∙ at)

-- ---- one entry ends

pub running-ended : (phases : List Phase) (running : List (Option ℕ)) (worker i run : ℕ) (status : EntryStatus) → AreRunning phases running → slice_get phases i ≡ Some (Running worker run) → i < length phases → AreRunning (set phases i (Ended status)) (set running worker None)
running-ended phases running worker i run status all was less = record {
  many = length-set running worker None ∙ all.many;
  runs = λ w k at. runs w k (cases_eq w worker) at;
  is_run = λ w k n at. is_run w k n (cases_eq k i) at;
}
  where
    phases' : List Phase
    phases' = set phases i (Ended status)

    running' : List (Option ℕ)
    running' = set running worker None

    at-worker : slice_get running worker ≡ Some (Some i)
    at-worker = all.is_run worker i run was

    within : worker < length running
    within = slice_get_within running worker (Some i) at-worker

    old : (w k : ℕ) → (w ≡ worker → ⊥) → slice_get running w ≡ Some (Some k) → (k ≡ i) ⊎ (k ≡ i → ⊥) → (n : ℕ) × (slice_get phases' k ≡ Some (Running w n))
    old w k apart at (inl same) =
        let r = all.runs w k at in
        absurd (apart (sym (same-worker worker w run r.0 (sym was ∙ subst (λ (n : ℕ). slice_get phases n ≡ Some (Running w r.0)) same r.1))))
    old w k apart at (inr other) = let r = all.runs w k at in (r.0, get-others phases i k (Ended status) other ∙ r.1)

    runs : (w k : ℕ) → (w ≡ worker) ⊎ (w ≡ worker → ⊥) → slice_get running' w ≡ Some (Some k) → (n : ℕ) × (slice_get phases' k ≡ Some (Running w n))
    runs w k (inl same) at = absurd (no-place k (sym (get-set running worker None within) ∙ subst (λ (n : ℕ). slice_get running' n ≡ Some (Some k)) same at))
    runs w k (inr other) at = old w k other (sym (get-others running worker w None other) ∙ at) (cases_eq k i)

    before : (w k : ℕ) → (k ≡ i → ⊥) → slice_get running w ≡ Some (Some k) → (w ≡ worker) ⊎ (w ≡ worker → ⊥) → slice_get running' w ≡ Some (Some k)
    before w k apart at (inl same) = absurd (apart (sym (same-place i k (sym at-worker ∙ subst (λ (n : ℕ). slice_get running n ≡ Some (Some k)) same at))))
    before w k apart at (inr other) = get-others running worker w None other ∙ at

    is_run : (w k n : ℕ) → (k ≡ i) ⊎ (k ≡ i → ⊥) → slice_get phases' k ≡ Some (Running w n) → slice_get running' w ≡ Some (Some k)
    is_run w k n (inl same) at = absurd (not-ended w n status (sym (get-set phases i (Ended status) less) ∙ subst (λ (m : ℕ). slice_get phases' m ≡ Some (Running w n)) same at))
    is_run w k n (inr other) at = before w k other (all.is_run w k n (sym (get-others phases i k (Ended status) other) ∙ at)) (cases_eq w worker)

-- an entry that waits is skipped
pub running-skipped : (phases : List Phase) (running : List (Option ℕ)) (i : ℕ) (status : EntryStatus) → AreRunning phases running → slice_get phases i ≡ Some Waiting → i < length phases → AreRunning (set phases i (Ended status)) running
running-skipped phases running i status all was less =
    record { many = all.many; runs = λ w k at. runs w k at (cases_eq k i); is_run = λ w k n at. is_run w k n at (cases_eq k i) }
  where
    phases' : List Phase
    phases' = set phases i (Ended status)

    runs : (w k : ℕ) → slice_get running w ≡ Some (Some k) → (k ≡ i) ⊎ (k ≡ i → ⊥) → (n : ℕ) × (slice_get phases' k ≡ Some (Running w n))
    runs w k at (inl same) =
        let r = all.runs w k at in
        absurd (not-waiting w r.0 (sym was ∙ subst (λ (n : ℕ). slice_get phases n ≡ Some (Running w r.0)) same r.1))
    runs w k at (inr other) = let r = all.runs w k at in (r.0, get-others phases i k (Ended status) other ∙ r.1)

    is_run : (w k n : ℕ) → slice_get phases' k ≡ Some (Running w n) → (k ≡ i) ⊎ (k ≡ i → ⊥) → slice_get running w ≡ Some (Some k)
    is_run w k n at (inl same) = absurd (not-ended w n status (sym (get-set phases i (Ended status) less) ∙ subst (λ (m : ℕ). slice_get phases' m ≡ Some (Running w n)) same at))
    is_run w k n at (inr other) = all.is_run w k n (sym (get-others phases i k (Ended status) other) ∙ at)
