-- Histories from the opening of the examples, computed over its entries as a list.
use Rattle.std.proofs.Common.{◌≡◌, Bool, true, List, [], ◌∷◌, map, refl, ap, ◌∙◌}
use Rattle.std.specs.Prelude.{codes}
use Rattle.std.specs.FinMap.{entries, entries-from_sorted}
use Rattle.cat_model.specs.declared.key.Key.TheVariants as key
use Rattle.cat_model.specs.Keys.{key_cmp}
use Rattle.cat_model.specs.declared.value.Value.TheVariants as value
use Rattle.restore_plan.specs.declared.entry.Entry.{Entry}
use Rattle.restore_plan.specs.Examples.{with_public, postgres}
use Rattle.restore_plan.specs.Order.{plan}
use Rattle.restore_plan.proofs.ListRun.{Items}
use Rattle.restore_core.specs.declared.event.Event.{Event}
use Rattle.restore_core.specs.declared.phase.Phase.{Phase}
use Rattle.restore_core.specs.Machine.{first, enabled, IsLegal}
use Rattle.restore_core.specs.Examples.{behind, phases}
use Rattle.restore_core.proofs.ListMachine.{Listed, listed, after_in, after-in, enabled_in, enabled-in, legal_in, legal-in}

abbrev pub items : Items
items = (key.Schema (codes "public"), value.Schema) ∷ []

abbrev pub begun : List Entry → Listed
begun es = record { items = items; entries = (first with_public (plan with_public es)).entries }

begun-is : (es : List Entry) → listed (first with_public (plan with_public es)) ≡ begun es
begun-is es = ap (λ (is : Items). let l : Listed = record { items = is; entries = (first with_public (plan with_public es)).entries } in l) (entries-from_sorted key_cmp items tt)

behind-is : (es : List Entry) (events : List Event) → listed (behind es events) ≡ after_in postgres (begun es) events
behind-is es events = after-in postgres (first with_public (plan with_public es)) events ∙ ap (λ (l : Listed). after_in postgres l events) (begun-is es)

pub phases-are : (es : List Entry) (events : List Event) → phases es events ≡ map (λ x. x.phase) (after_in postgres (begun es) events).entries
phases-are es events = ap (λ (l : Listed). map (λ x. x.phase) l.entries) (behind-is es events)

pub enabled-is : (es : List Entry) (events : List Event) (e : Event) → enabled (behind es events) e ≡ enabled_in (after_in postgres (begun es) events) e
enabled-is es events e = enabled-in (behind es events) e ∙ ap (λ (l : Listed). enabled_in l e) (behind-is es events)

pub is-legal : (es : List Entry) (events : List Event) → legal_in postgres (begun es) events ≡ true → IsLegal postgres (behind es []) events
is-legal es events h = legal-in postgres (behind es []) events (ap (λ (l : Listed). legal_in postgres l events) (begun-is es) ∙ h)
