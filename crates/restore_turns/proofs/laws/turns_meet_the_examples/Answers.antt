-- A turn speaks of the entries alone, so it is computed over those of a history from the opening as a list.
use Rattle.std.proofs.Common.{◌≡◌, ℕ, List, [], ◌∷◌, refl, ap, ◌∙◌}
use Rattle.std.specs.FinMap.{entries-from_sorted}
use Rattle.cat_model.specs.Keys.{key_cmp}
use Rattle.restore_plan.specs.Examples.{with_public, postgres, two_schemas}
use Rattle.restore_plan.specs.Order.{plan}
use Rattle.restore_plan.proofs.ListRun.{Items}
use Rattle.restore_core.specs.declared.event.Event.{Event}
use Rattle.restore_core.specs.declared.event.Event.TheVariants.{Start, Step}
use Rattle.restore_core.specs.Machine.{Going, first}
use Rattle.restore_core.specs.Examples.{behind}
use Rattle.restore_core.proofs.Computed.{items, begun}
use Rattle.restore_core.proofs.ListMachine.{Listed, after_in, after-in}
use Rattle.restore_turns.specs.Turns.{turn}
use Rattle.restore_turns.specs.Measures.{left}
use Rattle.restore_turns.proofs.laws.turns_meet_the_examples.Goals as goal

abbrev computed : List Event → List Going
computed events = (after_in postgres (begun two_schemas) events).entries

entries-are : (events : List Event) → (behind two_schemas events).entries ≡ computed events
entries-are events =
    ap (λ (l : Listed). l.entries) (after-in postgres (first with_public (plan with_public two_schemas)) events)
    ∙ ap (λ (is : Items). (after_in postgres (record { items = is; entries = (first with_public (plan with_public two_schemas)).entries }) events).entries) (entries-from_sorted key_cmp items tt)

turn-is : (worker : ℕ) (events : List Event) → turn worker (behind two_schemas events) ≡ turn worker (record { catalogue = with_public; entries = computed events })
turn-is worker events = ap (λ (xs : List Going). turn worker (record { catalogue = with_public; entries = xs })) (entries-are events)

left-is : (events : List Event) → left (behind two_schemas events).entries ≡ left (computed events)
left-is events = ap left (entries-are events)

pub returns : goal.returns
returns c = record {
  first = turn-is 0 [];
  begins = refl;
  again = turn-is 0 (Start 0 0 ∷ []);
  waits = turn-is 1 (Start 0 0 ∷ []);
  second = turn-is 1 (Start 0 0 ∷ Step 0 ∷ []);
  finished = turn-is 0 (Start 0 0 ∷ Step 0 ∷ Start 1 1 ∷ Step 1 ∷ []);
  whole = left-is [];
  rest = left-is (Start 0 0 ∷ Step 0 ∷ []);
}
