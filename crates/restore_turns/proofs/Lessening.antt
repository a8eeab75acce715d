-- Each event that is enabled leaves less to do: one entry goes into a phase with less before it, and all others stay.
use Rattle.std.proofs.Common.{◌≡◌, ◌⊎◌, inl, inr, ℕ, zero, suc, ◌+◌, ◌<◌, Bool, true, false, not, ◌&&◌, cond, nat_lt, List, [], ◌∷◌, take, drop, length, Option, Some, None, is_none, refl, ap, sym, subst, ◌∙◌, arith}
use Rattle.std.specs.List.{slice_get}
use Rattle.cat_model.specs.Values.{Bytes, Named}
use Rattle.cat_model.specs.declared.cause.Cause.{Cause}
use Rattle.restore_plan.specs.declared.status.EntryStatus.TheVariants.{Done}
use Rattle.restore_plan.specs.declared.step.Step.{Step as Statement}
use Rattle.restore_plan.specs.Serial.{Under_way}
use Rattle.restore_core.specs.declared.event.Event.{Event}
use Rattle.restore_core.specs.declared.event.Event.TheVariants.{Start, Skip, Step}
use Rattle.restore_core.specs.declared.phase.Phase.{Phase}
use Rattle.restore_core.specs.declared.phase.Phase.TheVariants.{Waiting, Running, Ended}
use Rattle.restore_core.specs.Phases.{is_waiting, is_run_by}
use Rattle.restore_core.specs.Machine.{Going, State, is_free, is_ready, blocked_by, locks_are_free, all_before_ended, may_start, may_skip, enabled, changed_at, in_phase, skipped, ran_next, phase_behind, stepped_as, step_of, step_at, place_of, happens}
use Rattle.std.proofs.lemmas.Bool.{ltb-true}
use Rattle.restore_core.proofs.Booleans.{and_first, and_second, both_ways}
use Rattle.restore_core.proofs.Kept.{Found, found, runs-as}
use Rattle.restore_core.proofs.Pairs.{head_is, no_head}
use Rattle.restore_turns.specs.Measures.{left_in, left}

abbrev left_of : Going → ℕ
left_of x = left_in x.plan.steps x.phase

one-less : (change : Going → Going) (xs : List Going) (i : ℕ) (x : Going) → slice_get xs i ≡ Some x → left_of (change x) < left_of x → left (changed_at change i xs) < left xs
one-less change [] i x e less = no_head x e
one-less change (y ∷ ys) zero x e less =
    let here : left_of (change y) < left_of y = subst (λ (z : Going). left_of (change z) < left_of z) (sym (head_is y x e)) less in
    omega arith
one-less change (y ∷ ys) (suc i) x e less = let rest = one-less change ys i x e less in omega arith

waits-most : (steps : List Statement) (p : Phase) → is_waiting p ≡ true → left_in steps p ≡ length steps + 2
waits-most steps Waiting h = refl
waits-most steps (Running worker run) h = absurd (both_ways false h refl)
waits-most steps (Ended status) h = absurd (both_ways false h refl)

start-less : (s : State) (worker i : ℕ) (o : Option Going) → slice_get s.entries i ≡ o → may_start s.entries (take i s.entries) o ≡ true → left (changed_at (in_phase (Running worker 0)) i s.entries) < left s.entries
start-less s worker i None e h = absurd (both_ways false h refl)
start-less s worker i (Some x) e h =
    let free = is_none (blocked_by (take i s.entries) x) && locks_are_free s.entries x.plan in
    let ready : is_ready (take i s.entries) x ≡ true = and_first (is_ready (take i s.entries) x) free h in
    let waits = waits-most x.plan.steps x.phase (and_first (is_waiting x.phase) (all_before_ended (take i s.entries) x.plan) ready) in
    one-less (in_phase (Running worker 0)) s.entries i x e (omega arith)

some-is : (b : Option ℕ) → not (is_none b) ≡ true → (by : ℕ) × (b ≡ Some by)
some-is None h = absurd (both_ways false h refl)
some-is (Some by) h = (by, refl)

skip-less : (s : State) (i : ℕ) (o : Option Going) → slice_get s.entries i ≡ o → may_skip (take i s.entries) o ≡ true → left (changed_at (λ x. skipped (blocked_by (take i s.entries) x) x) i s.entries) < left s.entries
skip-less s i None e h = absurd (both_ways false h refl)
skip-less s i (Some x) e h =
    let b = blocked_by (take i s.entries) x in
    let ready : is_ready (take i s.entries) x ≡ true = and_first (is_ready (take i s.entries) x) (not (is_none b)) h in
    let waits = waits-most x.plan.steps x.phase (and_first (is_waiting x.phase) (all_before_ended (take i s.entries) x.plan) ready) in
    let by : (by : ℕ) × (b ≡ Some by) = some-is b (and_second (is_ready (take i s.entries) x) (not (is_none b)) h) in
    let none : left_of (skipped b x) ≡ 0 = ap (λ (o : Option ℕ). left_of (skipped o x)) by.1 in
    one-less (λ y. skipped (blocked_by (take i s.entries) y) y) s.entries i x e (omega arith)

-- a statement is left exactly where there is a next one
none-left : (steps : List Statement) (run : ℕ) → slice_get steps run ≡ None → drop run steps ≡ []
none-left [] zero e = refl
none-left [] (suc run) e = refl
none-left (x ∷ xs) zero e = cc
none-left (x ∷ xs) (suc run) e = none-left xs run e

one-left : (steps : List Statement) (run : ℕ) (x : Statement) → slice_get steps run ≡ Some x → length (drop run steps) ≡ suc (length (drop (suc run) steps))
one-left [] run x e = no_head x e
one-left (y ∷ ys) zero x e = refl
one-left (y ∷ ys) (suc run) x e = one-left ys run x e

steps-less : (steps : List Statement) (worker run : ℕ) (u : Under_way) (r : Option Cause) → length (drop u.run steps) < length (drop run steps) ⊎ (drop run steps ≡ []) × (nat_lt u.run (length steps) ≡ false) → left_in steps (phase_behind worker (length steps) u r) < length (drop run steps) + 1
steps-less steps worker run u (Some cause) h = omega arith
steps-less steps worker run u None (inl less) = at (nat_lt u.run (length steps))
  where
    at : (b : Bool) → left_in steps (cond b (Running worker u.run) (Ended Done)) < length (drop run steps) + 1
    at true = omega arith
    at false = omega arith
steps-less steps worker run u None (inr none) = rw none.1 (omega arith)

ran-less : (boot : Bytes) (named : Named) (x : Going) (worker run : ℕ) (o : Option Statement) → slice_get x.plan.steps run ≡ o → let u = ran_next boot named x run o in left_in x.plan.steps (phase_behind worker (length x.plan.steps) u u.refused) < length (drop run x.plan.steps) + 1
ran-less boot named x worker run None e = steps-less x.plan.steps worker run (ran_next boot named x run None) None (inr (none-left x.plan.steps run e, past x.plan.steps run e))
  where
    there : (steps : List Statement) (n : ℕ) → n < length steps → slice_get steps n ≡ None → ⊥
    there [] n less g = omega arith
    there (y ∷ ys) zero less g = cc
    there (y ∷ ys) (suc n) less g = there ys n (omega arith) g

    past : (steps : List Statement) (n : ℕ) → slice_get steps n ≡ None → nat_lt n (length steps) ≡ false
    past steps n g = by (nat_lt n (length steps)) refl
      where
        by : (b : Bool) → nat_lt n (length steps) ≡ b → b ≡ false
        by true is = absurd (there steps n (ltb-true n (length steps) is) g)
        by false is = refl
ran-less boot named x worker run (Some next) e =
    let u = ran_next boot named x run (Some next) in
    let one : length (drop run x.plan.steps) ≡ suc (length (drop (run + 1) x.plan.steps)) = one-left x.plan.steps run next e ∙ ap (λ (n : ℕ). suc (length (drop n x.plan.steps))) (one-more run) in
    steps-less x.plan.steps worker run u u.refused (inl (omega arith))
  where
    one-more : (n : ℕ) → suc n ≡ n + 1
    one-more n = omega arith

step-phase : (boot : Bytes) (s : State) (i v run : ℕ) (x : Going) (p : Phase) → p ≡ Running v run → step_of boot s i x p ≡ record { catalogue = (ran_next boot s.catalogue x run (slice_get x.plan.steps run)).catalogue; entries = changed_at (stepped_as (ran_next boot s.catalogue x run (slice_get x.plan.steps run)) v) i s.entries }
step-phase boot s i v run x p e = ap (step_of boot s i x) e

step-less : (boot : Bytes) (s : State) (worker : ℕ) (f : Found (λ x. is_run_by worker x.phase) s.entries) → left (happens boot s (Step worker)).entries < left s.entries
step-less boot s worker f =
    let x = f.entry in
    let i = place_of worker s.entries in
    let r : (v : ℕ) × (run : ℕ) × (x.phase ≡ Running v run) = runs-as worker x.phase f.is in
    let u = ran_next boot s.catalogue x r.1 (slice_get x.plan.steps r.1) in
    let is : happens boot s (Step worker) ≡ record { catalogue = u.catalogue; entries = changed_at (stepped_as u r.0) i s.entries } = ap (step_at boot s i) f.at ∙ step-phase boot s i r.0 r.1 x x.phase r.2 in
    let was : left_of x ≡ length (drop r.1 x.plan.steps) + 1 = ap (left_in x.plan.steps) r.2 in
    let less = ran-less boot s.catalogue x r.0 r.1 (slice_get x.plan.steps r.1) refl in
    subst (λ (t : State). left t.entries < left s.entries) (sym is) (one-less (stepped_as u r.0) s.entries i x f.at (omega arith))

pub lessens : (boot : Bytes) (s : State) (e : Event) → enabled s e ≡ true → left (happens boot s e).entries < left s.entries
lessens boot s (Start worker i) h =
    let m = may_start s.entries (take i s.entries) (slice_get s.entries i) in
    start-less s worker i (slice_get s.entries i) refl (and_second (is_free worker s.entries) m (and_second (nat_lt worker 64) (is_free worker s.entries && m) h))
lessens boot s (Skip i) h = skip-less s i (slice_get s.entries i) refl h
lessens boot s (Step worker) h = step-less boot s worker (found (λ x. is_run_by worker x.phase) s.entries h)
