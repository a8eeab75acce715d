-- A board that stands later, and with less to do.
use Rattle.std.proofs.Common.{◌≡◌, ℕ, ◌<◌, Bool, true, false, cond, List, [], ◌∷◌, ◌++◌, Option, Some, None, refl, ap, sym, subst, ◌∙◌, append-nil, append_assoc}
use Rattle.std.specs.List.{list_any}
use Rattle.restore_core.specs.declared.event.Event.{Event}
use Rattle.restore_core.specs.declared.event.Event.TheVariants as event
use Rattle.restore_core.specs.declared.phase.Phase.{Phase}
use Rattle.restore_core.specs.declared.phase.Phase.TheVariants.{Waiting, Running, Ended}
use Rattle.restore_core.specs.Phases.{is_run_by, is_running}
use Rattle.restore_core.specs.Machine.{Going, State, all_ended, enabled, is_free}
use Rattle.restore_core.proofs.Booleans.{both_ways, not_false, or_false, or_first_false, or_second_false}
use Rattle.restore_turns.specs.declared.turn.Turn.{Turn}
use Rattle.restore_turns.specs.declared.turn.Turn.TheVariants.{Run, Skip, NotYet, Finished}
use Rattle.restore_turns.specs.Measures.{left}
use Rattle.restore_turns.specs.Turns.{event_of, turn}
use Rattle.restore_turns.proofs.Lessening.{lessens}
use Rattle.restore_turns.proofs.Taking.{one-runs, only-at-end, turn-enabled}
use Rattle.restore_board.specs.declared.answer.StepAnswer.{StepAnswer}
use Rattle.restore_board.specs.declared.answer.StepAnswer.TheVariants.{More, Done, Idle, Memory}
use Rattle.restore_board.specs.Answers.{Steps}
use Rattle.restore_board.specs.Standing.{Standing, state, with_event, with_events, IsLater}
use Rattle.restore_board.proofs.Gone.{may-step}
use Rattle.restore_board.proofs.Keeping.{state-on}

abbrev with_history : Standing → List Event → Standing
with_history s history = record { opening = s.opening; boot = s.boot; plan = s.plan; history = history }

pub later-none : (old new : Standing) → new ≡ old → IsLater old new
later-none old new e = ([], e ∙ ap (with_history old) (sym (append-nil old.history)))

pub later-event : (old new : Standing) (o : Option Event) → new ≡ with_event o old → IsLater old new
later-event old new None e = later-none old new e
later-event old new (Some happened) e = (happened ∷ [], e)

pub later-still : (old mid new : Standing) → IsLater old mid → IsLater mid new → IsLater old new
later-still old mid new first second = (
  first.0 ++ second.0,
  second.1
      ∙ ap (with_events second.0) first.1
      ∙ ap (with_history old) (append_assoc old.history first.0 second.0),
)

pub later-step : (worker : ℕ) (old new : Standing) (answer : StepAnswer) → Steps worker old new answer → IsLater old new
later-step worker old new More h = later-event old new (Some (event.Step worker)) h.1
later-step worker old new Done h = later-event old new (Some (event.Step worker)) h.1
later-step worker old new Idle h = later-none old new h.1
later-step worker old new Memory h = later-none old new h.1

-- ---- less is left

pub less-event : (old new : Standing) (e : Event) → new ≡ with_event (Some e) old → enabled (state old) e ≡ true → left (state new).entries < left (state old).entries
less-event old new e is may =
    subst (λ (t : State). left t.entries < left (state old).entries) (sym (ap state is ∙ state-on old e)) (lessens old.boot (state old) e may)

-- it took a step, or there was no memory
pub less-step : (worker : ℕ) (old new : Standing) (answer : StepAnswer) → is_free worker (state old).entries ≡ false → (answer ≡ Memory → ⊥) → Steps worker old new answer → left (state new).entries < left (state old).entries
less-step worker old new More busy not_memory h = less-event old new (event.Step worker) h.1 (may-step (state old) worker busy)
less-step worker old new Done busy not_memory h = less-event old new (event.Step worker) h.1 (may-step (state old) worker busy)
less-step worker old new Idle busy not_memory h = absurd (both_ways (is_free worker (state old).entries) h.0 busy)
less-step worker old new Memory busy not_memory h = absurd (not_memory refl)

-- ---- a turn where no entry runs

run-is-running : (worker : ℕ) (p : Phase) → is_running p ≡ false → is_run_by worker p ≡ false
run-is-running worker Waiting h = refl
run-is-running worker (Running w run) h = absurd (both_ways true refl h)
run-is-running worker (Ended status) h = refl

none-by : (worker : ℕ) (xs : List Going) → list_any (λ x. is_running x.phase) xs ≡ false → list_any (λ x. is_run_by worker x.phase) xs ≡ false
none-by worker [] h = refl
none-by worker (x ∷ xs) h =
    or_false (is_run_by worker x.phase) (list_any (λ y. is_run_by worker y.phase) xs)
    (run-is-running worker x.phase (or_first_false (is_running x.phase) (list_any (λ y. is_running y.phase) xs) h))
    (none-by worker xs (or_second_false (is_running x.phase) (list_any (λ y. is_running y.phase) xs) h))

pub all-free : (worker : ℕ) (xs : List Going) → list_any (λ x. is_running x.phase) xs ≡ false → is_free worker xs ≡ true
all-free worker xs none = not_false (list_any (λ x. is_run_by worker x.phase) xs) (none-by worker xs none)

module _ (old new : Standing) (none : list_any (λ x. is_running x.phase) (state old).entries ≡ false) (is : new ≡ with_event (event_of 0 (state old) (turn 0 (state old))) old) where
  less-by : (e : Event) → event_of 0 (state old) (turn 0 (state old)) ≡ Some e → left (state new).entries < left (state old).entries
  less-by e happened = less-event old new e (is ∙ ap (λ (o : Option Event). with_event o old) happened) (turn-enabled 0 (state old) e happened)

  -- an entry starts or is skipped
  pub less-turn : (t : Turn) → t ≡ turn 0 (state old) → (t ≡ Finished → ⊥) → left (state new).entries < left (state old).entries
  less-turn (Run i) e not_finished =
      less-by (event.Start 0 i)
      (ap (event_of 0 (state old)) (sym e) ∙ ap (λ (b : Bool). cond b (Some (event.Start 0 i)) None) (all-free 0 (state old).entries none))
  less-turn (Skip i) e not_finished = less-by (event.Skip i) (ap (event_of 0 (state old)) (sym e))
  less-turn NotYet e not_finished = absurd (both_ways (list_any (λ x. is_running x.phase) (state old).entries) (one-runs 0 (state old) refl (sym e)) none)
  less-turn Finished e not_finished = absurd (not_finished refl)

  -- or every entry has ended
  pub ended-turn : Finished ≡ turn 0 (state old) → all_ended (state new) ≡ true
  ended-turn e =
      ap (λ (s : Standing). all_ended (state s)) (is ∙ ap (λ (t : Turn). with_event (event_of 0 (state old) t) old) (sym e))
      ∙ only-at-end 0 (state old) (sym e)
