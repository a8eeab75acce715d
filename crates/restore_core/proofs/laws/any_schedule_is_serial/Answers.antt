-- The catalogue is what the entries have run in the order of the list, and where all have ended that is the serial
-- restore.
use Rattle.std.proofs.Common.{◌≡◌, true, List, [], map, ap, ◌∙◌}
use Rattle.std.specs.List.{filter_map, flat_map}
use Rattle.cat_model.specs.Values.{Bytes, Named}
use Rattle.restore_plan.specs.declared.entry.Entry.{Entry}
use Rattle.restore_plan.specs.declared.planned.Planned.{Planned}
use Rattle.restore_plan.specs.Order.{foreign_keys, plan}
use Rattle.restore_plan.specs.Places.{Given, InPlaces}
use Rattle.restore_plan.specs.Serial.{Restored, serial, serial_behind}
use Rattle.restore_core.specs.declared.event.Event.{Event}
use Rattle.restore_core.specs.Machine.{State, first, IsLegal, after, all_ended, result_of}
use Rattle.restore_core.specs.Phases.{status_in}
use Rattle.restore_core.proofs.Exchange.{ChangePlaces}
use Rattle.restore_core.proofs.Symmetric.{conflict-both}
use Rattle.restore_core.proofs.Kept.{Shape, InOrder, first-shape, first-order, shape-after, order-after}
use Rattle.restore_core.proofs.SameAsSerial.{found, same-as-serial}
use Rattle.restore_core.proofs.laws.any_schedule_is_serial.Goals as goal
use Rattle.std.proofs.Common.{sym}

at-end : (boot : Bytes) (opening : Named) (ps : List Planned) (s : State) → Shape ps s.entries → InOrder boot opening s → all_ended s ≡ true → result_of s ≡ serial boot opening ps
at-end boot opening ps s shape h all =
    ap (λ (m : Named). record { catalogue = m; statuses = filter_map (λ x. status_in x.phase) s.entries; notes = flat_map (λ x. x.notes) s.entries }) (sym h.order)
    ∙ same-as-serial boot s.entries [] opening all shape.blocks h.recorded
    ∙ ap (serial_behind boot [] opening) shape.plans

pub returns : goal.returns
returns c =
    let laws : ChangePlaces = record {
      says = c.trees_change_places.ensures.says;
      within = c.trees_change_places.ensures.within;
      leaves = c.trees_change_places.ensures.leaves;
      symmetric = conflict-both;
    } in
    λ boot opening es events legal all.
    let ps = plan opening es in
    at-end boot opening ps (after boot (first opening ps) events) (shape-after boot ps events (first opening ps) (first-shape opening ps) legal)
    (order-after laws boot opening (foreign_keys opening) ps (c.plans_stay_in_places.ensures.entries boot opening es) (c.plans_stay_in_places.ensures.opening opening) events (first opening ps) (first-shape opening ps) (first-order boot opening ps) legal) all
