-- Of two running entries the second has begun though the first hasn't ended, so the first isn't before it.
use Rattle.std.proofs.Common.{◌≡◌, ℕ, ◌<◌, Bool, true, false, not, ◌||◌, List, Some, refl}
use Rattle.std.specs.List.{slice_get}
use Rattle.cat_model.specs.Marks.{conflict}
use Rattle.cat_model.specs.Values.{Bytes, Named}
use Rattle.restore_plan.specs.Entries.{is_among}
use Rattle.restore_plan.specs.declared.planned.Planned.{Planned}
use Rattle.restore_plan.specs.Order.{before, clash}
use Rattle.restore_core.specs.declared.event.Event.{Event}
use Rattle.restore_core.specs.declared.phase.Phase.{Phase}
use Rattle.restore_core.specs.declared.phase.Phase.TheVariants.{Waiting, Running, Ended}
use Rattle.restore_core.specs.Phases.{is_waiting, is_running, has_ended}
use Rattle.restore_core.specs.Machine.{Going, first, IsLegal, after}
use Rattle.restore_core.proofs.Booleans.{or_other, or_second_false, not_true, both_ways}
use Rattle.restore_core.proofs.Pairs.{none-clash, locks-at, orders-at}
use Rattle.restore_core.proofs.Kept.{Shape, first-shape, shape-after}
use Rattle.restore_core.proofs.laws.running_entries_are_apart.Goals as goal
use Rattle.restore_core.proofs.Symmetric.{conflict-both}

not-ended : (p : Phase) → is_running p ≡ true → has_ended p ≡ false
not-ended Waiting h = absurd (both_ways false h refl)
not-ended (Running worker run) h = refl
not-ended (Ended status) h = absurd (both_ways false h refl)

not-waiting : (p : Phase) → is_running p ≡ true → is_waiting p ≡ false
not-waiting Waiting h = absurd (both_ways false h refl)
not-waiting (Running worker run) h = refl
not-waiting (Ended status) h = refl

apart : (ps : List Planned) (xs : List Going) → Shape ps xs → (i j : ℕ) (x y : Going) → i < j → slice_get xs i ≡ Some x → slice_get xs j ≡ Some y → is_running x.phase ≡ true → is_running y.phase ≡ true → conflict x.plan.footprint y.plan.footprint ≡ false
apart ps xs shape i j x y less e g r q =
    let h : has_ended x.phase || not (before x.plan y.plan) ≡ true = orders-at xs i j x y shape.orderly less e g (not-waiting y.phase q) in
    or_second_false (is_among x.plan.id y.plan.deps) (conflict x.plan.footprint y.plan.footprint) (not_true (before x.plan y.plan) (or_other (has_ended x.phase) (not (before x.plan y.plan)) (not-ended x.phase r) h))

unlocked : (ps : List Planned) (xs : List Going) → Shape ps xs → (i j : ℕ) (x y : Going) → i < j → slice_get xs i ≡ Some x → slice_get xs j ≡ Some y → is_running x.phase ≡ true → is_running y.phase ≡ true → clash x.plan y.plan ≡ false
unlocked ps xs shape i j x y less e g r q = none-clash x.plan.locks y.plan.locks (locks-at xs i j x y shape.locks less e g r q)

pub returns : goal.returns
returns c = record {
  conflicts = λ boot opening ps events i j x y legal less e g r q. apart ps (after boot (first opening ps) events).entries (shape-after boot ps events (first opening ps) (first-shape opening ps) legal) i j x y less e g r q;
  locks = λ boot opening ps events i j x y legal less e g r q. unlocked ps (after boot (first opening ps) events).entries (shape-after boot ps events (first opening ps) (first-shape opening ps) legal) i j x y less e g r q;
}
