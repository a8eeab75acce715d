-- Any schedule gives the serial result, and that is computed.
use Rattle.std.proofs.Common.{◌≡◌, true, List, ap, ◌∙◌}
use Rattle.restore_plan.specs.declared.status.EntryStatus.{EntryStatus}
use Rattle.restore_plan.specs.declared.entry.Entry.{Entry}
use Rattle.restore_plan.specs.Examples.{with_public, postgres, two_schemas, parents_first, children_first, equal_parents}
use Rattle.restore_plan.specs.Order.{plan}
use Rattle.restore_plan.specs.Serial.{Restored, serial}
use Rattle.restore_core.specs.declared.event.Event.{Event}
use Rattle.restore_core.specs.Machine.{first, IsLegal, after, all_ended, result_of}
use Rattle.restore_core.proofs.examples.same_in_every_schedule.Goals as goal

statuses_are : (a b : Restored) (ss : List EntryStatus) → a ≡ b → b.statuses ≡ ss → a.statuses ≡ ss
statuses_are a b ss e g = ap (λ (r : Restored). r.statuses) e ∙ g

pub returns : goal.returns
returns c =
    let end = λ (es : List Entry) (events : List Event). result_of (after postgres (first with_public (plan with_public es)) events) in
    let same = λ (es : List Entry). serial postgres with_public (plan with_public es) in
    let law = c.any_schedule_is_serial.ensures postgres with_public in
    record {
      schemas = λ events legal all. statuses_are (end two_schemas events) (same two_schemas) _ (law two_schemas events legal all) c.one_schema_twice.ensures;
      parents = λ events legal all. statuses_are (end parents_first events) (same parents_first) _ (law parents_first events legal all) c.parents_and_children.ensures.parents;
      children = λ events legal all. statuses_are (end children_first events) (same children_first) _ (law children_first events legal all) c.parents_and_children.ensures.children;
      equal = λ events legal all. statuses_are (end equal_parents events) (same equal_parents) _ (law equal_parents events legal all) c.parents_and_children.ensures.equal;
    }
