-- What an event that is enabled makes of a state whose entries are told by the plan, the phases and the notes.
use Rattle.std.proofs.Common.{◌≡◌, ℕ, ◌<◌, Bool, true, false, ◌&&◌, ◌||◌, not, nat_lt, List, [], ◌∷◌, ◌++◌, map, length, take, Option, Some, None, is_none, refl, ap, sym, ◌∙◌}
use Rattle.std.proofs.Math.ListN.{set}
use Rattle.std.proofs.lemmas.Bool.{ltb-true}
use Rattle.std.specs.List.{list_any, slice_get}
use Rattle.cat_model.specs.Values.{Bytes, Named}
use Rattle.restore_plan.specs.declared.planned.Planned.{Planned}
use Rattle.restore_plan.specs.declared.status.EntryStatus.TheVariants.{Skipped}
use Rattle.restore_plan.specs.declared.status.Note.{Note}
use Rattle.restore_plan.specs.Serial.{Under_way}
use Rattle.restore_core.specs.declared.event.Event.TheVariants.{Start, Skip, Step}
use Rattle.restore_core.specs.declared.phase.Phase.{Phase}
use Rattle.restore_core.specs.declared.phase.Phase.TheVariants.{Waiting, Running, Ended}
use Rattle.restore_core.specs.Phases.{is_waiting, is_run_by}
use Rattle.restore_core.specs.Machine.{Going, State, all_before_ended, blocked_by, changed_at, enabled, happens, in_phase, is_free, is_ready, locks_are_free, may_skip, may_start, phase_behind, place_of, ran_next, skipped, step_at, step_of, stepped_as, with_step}
use Rattle.restore_core.proofs.Booleans.{and_first, and_second, both_ways, not_true, same_number}
use Rattle.restore_core.proofs.Kept.{found}
use Rattle.restore_core.proofs.Pairs.{changed-same}
use Rattle.restore_board.specs.Kept.{goings}
use Rattle.restore_board.specs.Notes.{noted_at}
use Rattle.restore_board.proofs.Going.{set-both, set-phase, with_notes}

abbrev as-going : Planned → Phase → List Note → Going
as-going plan phase notes = record { plan = plan; phase = phase; notes = notes }

abbrev pub stands : Named → List Going → State
stands named entries = record { catalogue = named; entries = entries }

waits-as : (p : Phase) → is_waiting p ≡ true → p ≡ Waiting
waits-as Waiting h = refl
waits-as (Running worker run) h = absurd (both_ways false h refl)
waits-as (Ended status) h = absurd (both_ways false h refl)

pub any-mapped : (test : Phase → Bool) (xs : List Going) → list_any test (map (λ x. x.phase) xs) ≡ list_any (λ x. test x.phase) xs
any-mapped test [] = refl
any-mapped test (x ∷ xs) = ap (λ (b : Bool). test x.phase || b) (any-mapped test xs)

-- ---- one entry starts

-- an entry that may start or be skipped
pub record Waits (entries : List Going) (i : ℕ) : Type 0 where
  pub entry : Going
  pub there : slice_get entries i ≡ Some entry
  pub waits : entry.phase ≡ Waiting

pub starts-at : (all entries : List Going) (i : ℕ) (o : Option Going) → slice_get entries i ≡ o → may_start all (take i entries) o ≡ true → Waits entries i
starts-at all entries i None e h = absurd (both_ways false h refl)
starts-at all entries i (Some x) e h = record {
  entry = x;
  there = e;
  waits = waits-as x.phase (and_first (is_waiting x.phase) (all_before_ended (take i entries) x.plan) (and_first (is_ready (take i entries) x) (is_none (blocked_by (take i entries) x) && locks_are_free all x.plan) h));
}

-- what a start needs
pub record Starts (entries : List Going) (worker i : ℕ) : Type 0 where
  pub small : worker < 64
  pub free : list_any (λ x. is_run_by worker x.phase) entries ≡ false
  pub at : Waits entries i

pub may-start : (s : State) (worker i : ℕ) → enabled s (Start worker i) ≡ true → Starts s.entries worker i
may-start s worker i h =
    let m = may_start s.entries (take i s.entries) (slice_get s.entries i) in
    let rest = and_second (nat_lt worker 64) (is_free worker s.entries && m) h in
    record {
      small = ltb-true worker 64 (and_first (nat_lt worker 64) (is_free worker s.entries && m) h);
      free = not_true (list_any (λ x. is_run_by worker x.phase) s.entries) (and_first (is_free worker s.entries) m rest);
      at = starts-at s.entries s.entries i (slice_get s.entries i) refl (and_second (is_free worker s.entries) m rest);
    }

pub started : (boot : Bytes) (named : Named) (ps : List Planned) (fs : List Phase) (ns : List (List Note)) (worker i : ℕ) → happens boot (stands named (goings ps fs ns)) (Start worker i) ≡ stands named (goings ps (set fs i (Running worker 0)) ns)
started boot named ps fs ns worker i = ap (λ (xs : List Going). stands named xs) (sym (set-phase ps fs ns i (Running worker 0)))

-- ---- one entry is skipped

pub record Skips (entries : List Going) (i : ℕ) : Type 0 where
  pub at : Waits entries i
  pub by : ℕ
  pub blocked : blocked_by (take i entries) at.entry ≡ Some by

some-is : (b : Option ℕ) → not (is_none b) ≡ true → (by : ℕ) × (b ≡ Some by)
some-is None h = absurd (both_ways false h refl)
some-is (Some by) h = (by, refl)

skips-at : (entries : List Going) (i : ℕ) (o : Option Going) → slice_get entries i ≡ o → may_skip (take i entries) o ≡ true → Skips entries i
skips-at entries i None e h = absurd (both_ways false h refl)
skips-at entries i (Some x) e h =
    let by = some-is (blocked_by (take i entries) x) (and_second (is_ready (take i entries) x) (not (is_none (blocked_by (take i entries) x))) h) in
    record {
      at = record {
        entry = x;
        there = e;
        waits = waits-as x.phase (and_first (is_waiting x.phase) (all_before_ended (take i entries) x.plan) (and_first (is_ready (take i entries) x) (not (is_none (blocked_by (take i entries) x))) h));
      };
      by = by.0;
      blocked = by.1;
    }

pub may-skip : (s : State) (i : ℕ) → enabled s (Skip i) ≡ true → Skips s.entries i
may-skip s i h = skips-at s.entries i (slice_get s.entries i) refl h

pub was-skipped : (boot : Bytes) (named : Named) (ps : List Planned) (fs : List Phase) (ns : List (List Note)) (i by : ℕ) (x : Going) → slice_get (goings ps fs ns) i ≡ Some x → blocked_by (take i (goings ps fs ns)) x ≡ Some by → happens boot (stands named (goings ps fs ns)) (Skip i) ≡ stands named (goings ps (set fs i (Ended (Skipped by))) ns)
was-skipped boot named ps fs ns i by x e is =
    ap (λ (xs : List Going). stands named xs)
    (changed-same (λ y. skipped (blocked_by (take i (goings ps fs ns)) y) y) (in_phase (Ended (Skipped by))) (goings ps fs ns) i x e (ap (λ (o : Option ℕ). skipped o x) is) ∙ sym (set-phase ps fs ns i (Ended (Skipped by))))

-- ---- one entry takes a step

-- an entry that a worker runs, in its place
pub record Runs (entries : List Going) (worker i : ℕ) : Type 0 where
  pub entry : Going
  pub run : ℕ
  pub there : slice_get entries i ≡ Some entry
  pub runs : entry.phase ≡ Running worker run

run-as : (worker : ℕ) (p : Phase) → is_run_by worker p ≡ true → (run : ℕ) × (p ≡ Running worker run)
run-as worker Waiting h = absurd (both_ways false h refl)
run-as worker (Running w run) h = (run, ap (λ (v : ℕ). Running v run) (same_number w worker h))
run-as worker (Ended status) h = absurd (both_ways false h refl)

pub runs-in : (entries : List Going) (worker : ℕ) → list_any (λ x. is_run_by worker x.phase) entries ≡ true → Runs entries worker (place_of worker entries)
runs-in entries worker h =
    let f = found (λ x. is_run_by worker x.phase) entries h in
    let r = run-as worker f.entry.phase f.is in
    record { entry = f.entry; run = r.0; there = f.at; runs = r.1 }

stepped : (boot : Bytes) (s : State) (i worker run : ℕ) (x : Going) (p : Phase) → p ≡ Running worker run → step_of boot s i x p ≡ with_step s worker i (ran_next boot s.catalogue x run (slice_get x.plan.steps run))
stepped boot s i worker run x p is = ap (step_of boot s i x) is

pub steps : (boot : Bytes) (s : State) (worker i run : ℕ) (x : Going) → place_of worker s.entries ≡ i → slice_get s.entries i ≡ Some x → x.phase ≡ Running worker run → happens boot s (Step worker) ≡ with_step s worker i (ran_next boot s.catalogue x run (slice_get x.plan.steps run))
steps boot s worker i run x place e is =
    ap (λ (k : ℕ). step_at boot s k (slice_get s.entries k)) place
    ∙ ap (step_at boot s i) e
    ∙ stepped boot s i worker run x x.phase is

pub went-on : (boot : Bytes) (named named' : Named) (ps : List Planned) (fs : List Phase) (ns : List (List Note)) (worker i run : ℕ) (x : Going) (u : Under_way) (f : Phase) (more : List Note) → place_of worker (goings ps fs ns) ≡ i → slice_get (goings ps fs ns) i ≡ Some x → x.phase ≡ Running worker run → ran_next boot named x run (slice_get x.plan.steps run) ≡ u → named' ≡ u.catalogue → f ≡ phase_behind worker (length x.plan.steps) u u.refused → x.notes ++ more ≡ u.notes → happens boot (stands named (goings ps fs ns)) (Step worker) ≡ stands named' (goings ps (set fs i f) (noted_at ns i more))
went-on boot named named' ps fs ns worker i run x u f more place e is ran en ef em =
    steps boot (stands named (goings ps fs ns)) worker i run x place e is
    ∙ ap (with_step (stands named (goings ps fs ns)) worker i) ran
    ∙ ap (λ (n : Named). stands n (changed_at (stepped_as u worker) i (goings ps fs ns))) (sym en)
    ∙ ap (λ (xs : List Going). stands named' xs) (changed-same (stepped_as u worker) (with_notes f more) (goings ps fs ns) i x e same ∙ sym (set-both ps fs ns i f more))
  where
    same : stepped_as u worker x ≡ with_notes f more x
    same = ap (λ (q : Phase). as-going x.plan q u.notes) (sym ef) ∙ ap (as-going x.plan f) (sym em)
