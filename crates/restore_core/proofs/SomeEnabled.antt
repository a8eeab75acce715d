-- Where some entry hasn't ended, something may happen: a running entry takes a step, or where none runs the first that
-- waits may begin or be skipped, since all entries before it have ended.
use Rattle.std.proofs.Common.{◌≡◌, ℕ, zero, suc, Bool, true, false, not, ◌&&◌, ◌||◌, ◌==◌, List, [], ◌∷◌, take, Option, Some, None, is_none, refl, ap, sym, subst, ◌∙◌}
use Rattle.std.specs.List.{list_any, list_all, slice_get}
use Rattle.restore_plan.specs.declared.planned.Planned.{Planned}
use Rattle.restore_plan.specs.Order.{before, clash}
use Rattle.restore_core.specs.declared.event.Event.{Event}
use Rattle.restore_core.specs.declared.event.Event.TheVariants.{Start, Skip, Step}
use Rattle.restore_core.specs.declared.phase.Phase.{Phase}
use Rattle.restore_core.specs.declared.phase.Phase.TheVariants.{Waiting, Running, Ended}
use Rattle.restore_core.specs.Phases.{is_waiting, is_running, is_run_by, has_ended}
use Rattle.restore_core.specs.Machine.{Going, State, all_before_ended, is_ready, blocked_by, is_free, locks_are_free, may_start, may_skip, enabled, all_ended}
use Rattle.restore_core.proofs.Booleans.{and_first, and_second, and_both, or_first_false, or_second_false, or_false, or_by_first, or_by_second, not_false, both_ways, number_itself}

-- the worker of a running entry
runner : (p : Phase) → is_running p ≡ true → (w : ℕ) × (is_run_by w p ≡ true)
runner Waiting h = absurd (both_ways false h refl)
runner (Running worker run) h = (worker, number_itself worker)
runner (Ended status) h = absurd (both_ways false h refl)

some-worker : (xs : List Going) → list_any (λ x. is_running x.phase) xs ≡ true → (w : ℕ) × (list_any (λ x. is_run_by w x.phase) xs ≡ true)
some-worker [] h = absurd (both_ways false h refl)
some-worker (x ∷ xs) h = at (is_running x.phase) refl h (some-worker xs)
  where
    at : (b : Bool) → is_running x.phase ≡ b → b || list_any (λ y. is_running y.phase) xs ≡ true → (list_any (λ y. is_running y.phase) xs ≡ true → (w : ℕ) × (list_any (λ y. is_run_by w y.phase) xs ≡ true)) → (w : ℕ) × (list_any (λ y. is_run_by w y.phase) (x ∷ xs) ≡ true)
    at true e g later = let r = runner x.phase e in (r.0, or_by_first (is_run_by r.0 x.phase) (list_any (λ y. is_run_by r.0 y.phase) xs) r.1)
    at false e g later = let r = later g in (r.0, or_by_second (is_run_by r.0 x.phase) (list_any (λ y. is_run_by r.0 y.phase) xs) r.1)

not-run : (p : Phase) (w : ℕ) → is_running p ≡ false → is_run_by w p ≡ false
not-run Waiting w h = refl
not-run (Running worker run) w h = absurd (both_ways true refl h)
not-run (Ended status) w h = refl

none-run : (xs : List Going) (w : ℕ) → list_any (λ x. is_running x.phase) xs ≡ false → list_any (λ x. is_run_by w x.phase) xs ≡ false
none-run [] w h = refl
none-run (x ∷ xs) w h =
    or_false (is_run_by w x.phase) (list_any (λ y. is_run_by w y.phase) xs) (not-run x.phase w (or_first_false (is_running x.phase) (list_any (λ y. is_running y.phase) xs) h))
    (none-run xs w (or_second_false (is_running x.phase) (list_any (λ y. is_running y.phase) xs) h))

none-clash : (xs : List Going) (p : Planned) → list_any (λ x. is_running x.phase) xs ≡ false → list_any (λ x. is_running x.phase && clash p x.plan) xs ≡ false
none-clash [] p h = refl
none-clash (x ∷ xs) p h =
    or_false (is_running x.phase && clash p x.plan) (list_any (λ y. is_running y.phase && clash p y.plan) xs)
    (ap (λ (b : Bool). b && clash p x.plan) (or_first_false (is_running x.phase) (list_any (λ y. is_running y.phase) xs) h))
    (none-clash xs p (or_second_false (is_running x.phase) (list_any (λ y. is_running y.phase) xs) h))

-- the first entry that hasn't ended, where none runs
pub record Waits (xs : List Going) : Type 0 where
  pub place : ℕ
  pub entry : Going
  pub at : slice_get xs place ≡ Some entry
  pub waits : is_waiting entry.phase ≡ true
  pub earlier : list_all (λ x. has_ended x.phase) (take place xs) ≡ true

first-waits : (xs : List Going) → list_any (λ x. is_running x.phase) xs ≡ false → list_all (λ x. has_ended x.phase) xs ≡ false → Waits xs
first-waits [] none h = absurd (both_ways true refl h)
first-waits (x ∷ xs) none h =
    at x.phase refl (or_first_false (is_running x.phase) (list_any (λ y. is_running y.phase) xs) none) h
    (first-waits xs (or_second_false (is_running x.phase) (list_any (λ y. is_running y.phase) xs) none))
  where
    at : (p : Phase) → x.phase ≡ p → is_running x.phase ≡ false → has_ended x.phase && list_all (λ y. has_ended y.phase) xs ≡ false → (list_all (λ y. has_ended y.phase) xs ≡ false → Waits xs) → Waits (x ∷ xs)
    at Waiting is r g later = record { place = 0; entry = x; at = refl; waits = ap is_waiting is; earlier = refl }
    at (Running worker run) is r g later = absurd (both_ways (is_running x.phase) (ap is_running is) r)
    at (Ended status) is r g later =
        let ended : has_ended x.phase ≡ true = ap has_ended is in
        let w = later (ap (λ (b : Bool). b && list_all (λ y. has_ended y.phase) xs) (sym ended) ∙ g) in
        record { place = suc w.place; entry = w.entry; at = w.at; waits = w.waits; earlier = and_both (has_ended x.phase) (list_all (λ y. has_ended y.phase) (take w.place xs)) ended w.earlier }

none-before : (xs : List Going) (p : Planned) → list_all (λ x. has_ended x.phase) xs ≡ true → all_before_ended xs p ≡ true
none-before [] p h = refl
none-before (x ∷ xs) p h =
    and_both (has_ended x.phase || not (before x.plan p)) (all_before_ended xs p)
    (or_by_first (has_ended x.phase) (not (before x.plan p)) (and_first (has_ended x.phase) (list_all (λ y. has_ended y.phase) xs) h))
    (none-before xs p (and_second (has_ended x.phase) (list_all (λ y. has_ended y.phase) xs) h))

begins : (s : State) → list_any (λ x. is_running x.phase) s.entries ≡ false → (w : Waits s.entries) → (e : Event) × (enabled s e ≡ true)
begins s none w = at (blocked_by (take w.place s.entries) w.entry) refl
  where
    ready : is_ready (take w.place s.entries) w.entry ≡ true
    ready = and_both (is_waiting w.entry.phase) (all_before_ended (take w.place s.entries) w.entry.plan) w.waits (none-before (take w.place s.entries) w.entry.plan w.earlier)

    at : (b : Option ℕ) → blocked_by (take w.place s.entries) w.entry ≡ b → (e : Event) × (enabled s e ≡ true)
    at None is = (
      Start 0 w.place,
      and_both (is_free 0 s.entries) (may_start s.entries (take w.place s.entries) (slice_get s.entries w.place))
          (not_false (list_any (λ x. is_run_by 0 x.phase) s.entries) (none-run s.entries 0 none))
          (ap (may_start s.entries (take w.place s.entries)) w.at
          ∙ and_both (is_ready (take w.place s.entries) w.entry) (is_none (blocked_by (take w.place s.entries) w.entry) && locks_are_free s.entries w.entry.plan) ready
          (and_both (is_none (blocked_by (take w.place s.entries) w.entry)) (locks_are_free s.entries w.entry.plan) (ap is_none is)
          (not_false (list_any (λ x. is_running x.phase && clash w.entry.plan x.plan) s.entries) (none-clash s.entries w.entry.plan none)))),
    )
    at (Some by) is = (
      Skip w.place,
      ap (may_skip (take w.place s.entries)) w.at
          ∙ and_both (is_ready (take w.place s.entries) w.entry) (not (is_none (blocked_by (take w.place s.entries) w.entry))) ready (ap (λ (b : Option ℕ). not (is_none b)) is),
    )

pub some-enabled : (s : State) → all_ended s ≡ false → (e : Event) × (enabled s e ≡ true)
some-enabled s h = at (list_any (λ x. is_running x.phase) s.entries) refl
  where
    at : (b : Bool) → list_any (λ x. is_running x.phase) s.entries ≡ b → (e : Event) × (enabled s e ≡ true)
    at true is = let w = some-worker s.entries is in (Step w.0, w.1)
    at false is = begins s is (first-waits s.entries is h)
