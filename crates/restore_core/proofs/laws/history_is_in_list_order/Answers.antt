-- By the events one after another: each keeps that the catalogue is what the entries have run in the order of the list.
use Rattle.std.proofs.Common.{◌≡◌, List}
use Rattle.cat_model.specs.Values.{Bytes, Named}
use Rattle.restore_plan.specs.declared.entry.Entry.{Entry}
use Rattle.restore_plan.specs.Order.{foreign_keys, plan}
use Rattle.restore_plan.specs.Places.{Given, InPlaces}
use Rattle.restore_core.specs.declared.event.Event.{Event}
use Rattle.restore_core.specs.Machine.{first, IsLegal, after}
use Rattle.restore_core.proofs.Exchange.{ChangePlaces}
use Rattle.restore_core.proofs.Symmetric.{conflict-both}
use Rattle.restore_core.proofs.Kept.{InOrder, first-shape, first-order, shape-after, order-after}
use Rattle.restore_core.proofs.laws.history_is_in_list_order.Goals as goal

in-order : (laws : ChangePlaces) (boot : Bytes) (opening : Named) (es : List Entry) (events : List Event) → Given (foreign_keys opening) opening → InPlaces boot (foreign_keys opening) (plan opening es) → IsLegal boot (first opening (plan opening es)) events → InOrder boot opening (after boot (first opening (plan opening es)) events)
in-order laws boot opening es events given places legal =
    order-after laws boot opening (foreign_keys opening) (plan opening es) places given events (first opening (plan opening es)) (first-shape opening (plan opening es)) (first-order boot opening (plan opening es)) legal

pub returns : goal.returns
returns c =
    let laws : ChangePlaces = record {
      says = c.trees_change_places.ensures.says;
      within = c.trees_change_places.ensures.within;
      leaves = c.trees_change_places.ensures.leaves;
      symmetric = conflict-both;
    } in
    let at = λ (boot : Bytes) (opening : Named) (es : List Entry) (events : List Event) (legal : IsLegal boot (first opening (plan opening es)) events). in-order laws boot opening es events (c.plans_stay_in_places.ensures.opening opening) (c.plans_stay_in_places.ensures.entries boot opening es) legal in
    record {
      catalogue = λ boot opening es events legal. (at boot opening es events legal).order;
      recorded = λ boot opening es events legal. (at boot opening es events legal).recorded;
      entries = λ boot opening es events legal. (shape-after boot (plan opening es) events (first opening (plan opening es)) (first-shape opening (plan opening es)) legal).plans;
    }
