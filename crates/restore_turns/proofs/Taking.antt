-- What a worker's turn says of the state.
use Rattle.std.proofs.Common.{◌≡◌, ◌⊎◌, inl, inr, ℕ, zero, suc, ◌<◌, Bool, true, false, not, ◌&&◌, ◌||◌, cond, nat_lt, List, [], ◌∷◌, take, length, Option, Some, None, is_none, refl, ap, subst, ◌∙◌, arith}
use Rattle.std.specs.List.{list_any, list_all, slice_get, range_with_len}
use Rattle.restore_core.specs.declared.event.Event.{Event}
use Rattle.restore_core.specs.declared.event.Event.TheVariants as event
use Rattle.restore_core.specs.declared.phase.Phase.{Phase}
use Rattle.restore_core.specs.declared.phase.Phase.TheVariants.{Waiting, Running, Ended}
use Rattle.restore_core.specs.Phases.{is_waiting, is_running, is_run_by, has_ended}
use Rattle.restore_core.specs.Machine.{Going, State, is_free, is_ready, blocked_by, all_before_ended, locks_are_free, may_start, may_skip, enabled, all_ended, place_of}
use Rattle.restore_core.proofs.Booleans.{and_first, and_second, and_both, or_first_false, or_second_false, or_other, or_by_first, or_by_second, not_false, both_ways}
use Rattle.restore_core.proofs.SomeEnabled.{some-enabled}
use Rattle.restore_turns.specs.declared.turn.Turn.TheVariants.{Run, Skip, NotYet, Finished}
use Rattle.restore_turns.specs.Turns.{may_go, first_to_go, turn_at, turn, event_of}
use Rattle.restore_turns.proofs.Finding.{found-passes, none-passes, none-found}

-- ---- what is begun is enabled

some_is : (x y : Event) → Some x ≡ Some y → x ≡ y
some_is x y g = cc

begun : (worker : ℕ) (s : State) (i : ℕ) (e : Event) → is_free worker s.entries ≡ true → may_go worker s i ≡ true → event_of worker s (turn_at s (Some i)) ≡ Some e → enabled s e ≡ true
begun worker s i e free go is = at (enabled s (event.Skip i)) refl is
  where
    starts : (b : Bool) → is_free worker s.entries ≡ b → enabled s (event.Start worker i) ≡ true → cond b (Some (event.Start worker i)) None ≡ Some e → enabled s e ≡ true
    starts true f may g = subst (λ (x : Event). enabled s x ≡ true) (some_is (event.Start worker i) e g) may
    starts false f may g = absurd (both_ways (is_free worker s.entries) free f)

    at : (b : Bool) → enabled s (event.Skip i) ≡ b → event_of worker s (cond b (Skip i) (Run i)) ≡ Some e → enabled s e ≡ true
    at true may g = subst (λ (x : Event). enabled s x ≡ true) (some_is (event.Skip i) e g) may
    at false not_skipped g = starts (is_free worker s.entries) refl (or_other (enabled s (event.Skip i)) (enabled s (event.Start worker i)) not_skipped go) g

no-event : (s : State) (worker : ℕ) (e : Event) (b : Bool) → event_of worker s (cond b Finished NotYet) ≡ Some e → enabled s e ≡ true
no-event s worker e true g = cc
no-event s worker e false g = cc

pub turn-enabled : (worker : ℕ) (s : State) (e : Event) → event_of worker s (turn worker s) ≡ Some e → enabled s e ≡ true
turn-enabled worker s e is = at (is_free worker s.entries) refl is
  where
    by_first : (o : Option ℕ) → first_to_go worker s ≡ o → is_free worker s.entries ≡ true → event_of worker s (turn_at s o) ≡ Some e → enabled s e ≡ true
    by_first None f free g = no-event s worker e (all_ended s) g
    by_first (Some i) f free g = begun worker s i e free (found-passes (may_go worker s) (range_with_len 0 (length s.entries)) i f) g

    runs : (b : Bool) → is_free worker s.entries ≡ b → b ≡ false → cond b (Some (event.Start worker (place_of worker s.entries))) None ≡ Some e → enabled s e ≡ true
    runs true f busy g = absurd (both_ways true refl busy)
    runs false f busy g = cc

    at : (b : Bool) → is_free worker s.entries ≡ b → event_of worker s (cond b (turn_at s (first_to_go worker s)) (Run (place_of worker s.entries))) ≡ Some e → enabled s e ≡ true
    at true free g = by_first (first_to_go worker s) refl free g
    at false busy g = runs (is_free worker s.entries) refl busy g

-- ---- none may go

at-past : (xs : List Going) (i : ℕ) → (i < length xs → ⊥) → slice_get xs i ≡ None
at-past [] i h = refl
at-past (x ∷ xs) zero h = absurd (h (omega arith))
at-past (x ∷ xs) (suc i) h = at-past xs i (λ less. h (omega arith))

past-may-not : (worker : ℕ) (s : State) (i : ℕ) → slice_get s.entries i ≡ None → may_go worker s i ≡ false
past-may-not worker s i e = start (nat_lt worker 64) (is_free worker s.entries)
  where
    skips : may_skip (take i s.entries) (slice_get s.entries i) ≡ false
    skips = ap (may_skip (take i s.entries)) e

    begins : may_start s.entries (take i s.entries) (slice_get s.entries i) ≡ false
    begins = ap (may_start s.entries (take i s.entries)) e

    start : (a b : Bool) → may_skip (take i s.entries) (slice_get s.entries i) || (a && (b && may_start s.entries (take i s.entries) (slice_get s.entries i))) ≡ false
    start true true = rw skips begins
    start true false = rw skips refl
    start false b = rw skips refl

less-or-not : (i n : ℕ) → (i < n) ⊎ (i < n → ⊥)
less-or-not i zero = inr (λ less. omega arith)
less-or-not zero (suc n) = inl (omega arith)
less-or-not (suc i) (suc n) = at (less-or-not i n)
  where
    at : (i < n) ⊎ (i < n → ⊥) → (suc i < suc n) ⊎ (suc i < suc n → ⊥)
    at (inl less) = inl (omega arith)
    at (inr more) = inr (λ less. more (omega arith))

pub none-may : (worker : ℕ) (s : State) (i : ℕ) → first_to_go worker s ≡ None → may_go worker s i ≡ false
none-may worker s i e = at (less-or-not i (length s.entries))
  where
    at : (i < length s.entries) ⊎ (i < length s.entries → ⊥) → may_go worker s i ≡ false
    at (inl less) = subst (λ (k : ℕ). may_go worker s k ≡ false) (omega arith) (none-passes (may_go worker s) 0 (length s.entries) i e less)
    at (inr more) = past-may-not worker s i (at-past s.entries i more)

-- ---- what NotYet says

pub record Waits (worker : ℕ) (s : State) : Type 0 where
  pub free : is_free worker s.entries ≡ true
  pub none : first_to_go worker s ≡ None
  pub going : all_ended s ≡ false

pub not-yet : (worker : ℕ) (s : State) → turn worker s ≡ NotYet → Waits worker s
not-yet worker s is = at (is_free worker s.entries) refl is
  where
    skip : (i : ℕ) (b : Bool) → cond b (Skip i) (Run i) ≡ NotYet → Waits worker s
    skip i true g = cc
    skip i false g = cc

    ends : (b : Bool) → all_ended s ≡ b → is_free worker s.entries ≡ true → first_to_go worker s ≡ None → cond b Finished NotYet ≡ NotYet → Waits worker s
    ends true a free none g = cc
    ends false a free none g = record { free = free; none = none; going = a }

    by_first : (o : Option ℕ) → first_to_go worker s ≡ o → is_free worker s.entries ≡ true → turn_at s o ≡ NotYet → Waits worker s
    by_first None f free g = ends (all_ended s) refl free f g
    by_first (Some i) f free g = skip i (enabled s (event.Skip i)) g

    at : (b : Bool) → is_free worker s.entries ≡ b → cond b (turn_at s (first_to_go worker s)) (Run (place_of worker s.entries)) ≡ NotYet → Waits worker s
    at true free g = by_first (first_to_go worker s) refl free g
    at false busy g = cc

run-runs : (w : ℕ) (p : Phase) → is_run_by w p ≡ true → is_running p ≡ true
run-runs w Waiting h = h
run-runs w (Running worker run) h = refl
run-runs w (Ended status) h = h

any-runs : (w : ℕ) (xs : List Going) → list_any (λ x. is_run_by w x.phase) xs ≡ true → list_any (λ x. is_running x.phase) xs ≡ true
any-runs w [] h = h
any-runs w (x ∷ xs) h = at (is_run_by w x.phase) refl h (any-runs w xs)
  where
    at : (b : Bool) → is_run_by w x.phase ≡ b → b || list_any (λ y. is_run_by w y.phase) xs ≡ true → (list_any (λ y. is_run_by w y.phase) xs ≡ true → list_any (λ y. is_running y.phase) xs ≡ true) → list_any (λ y. is_running y.phase) (x ∷ xs) ≡ true
    at true is g later = or_by_first (is_running x.phase) (list_any (λ y. is_running y.phase) xs) (run-runs w x.phase is)
    at false is g later = or_by_second (is_running x.phase) (list_any (λ y. is_running y.phase) xs) (later g)

-- an entry that another worker could start this one can start too
pub as-own : (worker : ℕ) (s : State) (v i : ℕ) → nat_lt worker 64 ≡ true → is_free worker s.entries ≡ true → enabled s (event.Start v i) ≡ true → enabled s (event.Start worker i) ≡ true
as-own worker s v i small free h =
    let m = may_start s.entries (take i s.entries) (slice_get s.entries i) in
    let may : m ≡ true = and_second (is_free v s.entries) m (and_second (nat_lt v 64) (is_free v s.entries && m) h) in
    and_both (nat_lt worker 64) (is_free worker s.entries && m) small (and_both (is_free worker s.entries) m free may)

pub one-runs : (worker : ℕ) (s : State) → nat_lt worker 64 ≡ true → turn worker s ≡ NotYet → list_any (λ x. is_running x.phase) s.entries ≡ true
one-runs worker s small is =
    let w = not-yet worker s is in
    let some = some-enabled s w.going in
    by_event w some.0 some.1
  where
    by_event : Waits worker s → (e : Event) → enabled s e ≡ true → list_any (λ x. is_running x.phase) s.entries ≡ true
    by_event w (event.Start v i) h =
        absurd (both_ways (may_go worker s i) (or_by_second (enabled s (event.Skip i)) (enabled s (event.Start worker i)) (as-own worker s v i small w.free h)) (none-may worker s i w.none))
    by_event w (event.Skip i) h =
        absurd (both_ways (may_go worker s i) (or_by_first (enabled s (event.Skip i)) (enabled s (event.Start worker i)) h) (none-may worker s i w.none))
    by_event w (event.Step v) h = any-runs v s.entries h

pub no-start : (worker : ℕ) (s : State) (i : ℕ) → turn worker s ≡ NotYet → enabled s (event.Start worker i) ≡ false
no-start worker s i is = or_second_false (enabled s (event.Skip i)) (enabled s (event.Start worker i)) (none-may worker s i (not-yet worker s is).none)

pub no-skip : (worker : ℕ) (s : State) (i : ℕ) → turn worker s ≡ NotYet → enabled s (event.Skip i) ≡ false
no-skip worker s i is = or_first_false (enabled s (event.Skip i)) (enabled s (event.Start worker i)) (none-may worker s i (not-yet worker s is).none)

-- ---- what Finished says

ended-not-waiting : (p : Phase) → has_ended p ≡ true → is_waiting p ≡ false
ended-not-waiting Waiting h = absurd (both_ways false h refl)
ended-not-waiting (Running worker run) h = refl
ended-not-waiting (Ended status) h = refl

ended-not-run : (w : ℕ) (p : Phase) → has_ended p ≡ true → is_run_by w p ≡ false
ended-not-run w Waiting h = refl
ended-not-run w (Running worker run) h = absurd (both_ways false h refl)
ended-not-run w (Ended status) h = refl

none-run : (w : ℕ) (xs : List Going) → list_all (λ x. has_ended x.phase) xs ≡ true → list_any (λ x. is_run_by w x.phase) xs ≡ false
none-run w [] h = refl
none-run w (x ∷ xs) h =
    ap (λ (b : Bool). b || list_any (λ y. is_run_by w y.phase) xs) (ended-not-run w x.phase (and_first (has_ended x.phase) (list_all (λ y. has_ended y.phase) xs) h))
    ∙ none-run w xs (and_second (has_ended x.phase) (list_all (λ y. has_ended y.phase) xs) h)

-- an entry that has ended neither starts nor is skipped
ended-at : (xs : List Going) (i : ℕ) (x : Going) → list_all (λ y. has_ended y.phase) xs ≡ true → slice_get xs i ≡ Some x → has_ended x.phase ≡ true
ended-at [] i x h e = cc
ended-at (y ∷ ys) zero x h e =
    subst (λ (z : Going). has_ended z.phase ≡ true) (same y x e) (and_first (has_ended y.phase) (list_all (λ z. has_ended z.phase) ys) h)
  where
    same : (a b : Going) → Some a ≡ Some b → a ≡ b
    same a b g = cc
ended-at (y ∷ ys) (suc i) x h e = ended-at ys i x (and_second (has_ended y.phase) (list_all (λ z. has_ended z.phase) ys) h) e

ended-may-not : (worker : ℕ) (s : State) → all_ended s ≡ true → (i : ℕ) → may_go worker s i ≡ false
ended-may-not worker s all i = at (slice_get s.entries i) refl
  where
    at : (o : Option Going) → slice_get s.entries i ≡ o → may_go worker s i ≡ false
    at None e = past-may-not worker s i e
    at (Some x) e = start (nat_lt worker 64) (is_free worker s.entries)
      where
        ready : is_ready (take i s.entries) x ≡ false
        ready = ap (λ (b : Bool). b && all_before_ended (take i s.entries) x.plan) (ended-not-waiting x.phase (ended-at s.entries i x all e))

        skips : may_skip (take i s.entries) (slice_get s.entries i) ≡ false
        skips = ap (may_skip (take i s.entries)) e ∙ ap (λ (b : Bool). b && not (is_none (blocked_by (take i s.entries) x))) ready

        begins : may_start s.entries (take i s.entries) (slice_get s.entries i) ≡ false
        begins = ap (may_start s.entries (take i s.entries)) e ∙ ap (λ (b : Bool). b && (is_none (blocked_by (take i s.entries) x) && locks_are_free s.entries x.plan)) ready

        start : (a b : Bool) → may_skip (take i s.entries) (slice_get s.entries i) || (a && (b && may_start s.entries (take i s.entries) (slice_get s.entries i))) ≡ false
        start true true = rw skips begins
        start true false = rw skips refl
        start false b = rw skips refl

pub at-end : (worker : ℕ) (s : State) → all_ended s ≡ true → turn worker s ≡ Finished
at-end worker s all =
    let free : is_free worker s.entries ≡ true = not_false (list_any (λ x. is_run_by worker x.phase) s.entries) (none-run worker s.entries all) in
    let none : first_to_go worker s ≡ None = none-found (may_go worker s) (range_with_len 0 (length s.entries)) (ended-may-not worker s all) in
    ap (λ (b : Bool). cond b (turn_at s (first_to_go worker s)) (Run (place_of worker s.entries))) free
    ∙ ap (turn_at s) none
    ∙ ap (λ (b : Bool). cond b Finished NotYet) all

pub only-at-end : (worker : ℕ) (s : State) → turn worker s ≡ Finished → all_ended s ≡ true
only-at-end worker s is = at (is_free worker s.entries) is
  where
    skip : (i : ℕ) (b : Bool) → cond b (Skip i) (Run i) ≡ Finished → all_ended s ≡ true
    skip i true g = cc
    skip i false g = cc

    ends : (b : Bool) → all_ended s ≡ b → cond b Finished NotYet ≡ Finished → all_ended s ≡ true
    ends true a g = a
    ends false a g = cc

    by_first : (o : Option ℕ) → turn_at s o ≡ Finished → all_ended s ≡ true
    by_first None g = ends (all_ended s) refl g
    by_first (Some i) g = skip i (enabled s (event.Skip i)) g

    at : (b : Bool) → cond b (turn_at s (first_to_go worker s)) (Run (place_of worker s.entries)) ≡ Finished → all_ended s ≡ true
    at true g = by_first (first_to_go worker s) g
    at false g = cc
