-- One worker doesn't look at the foreign keys with which a plan is made.
use Rattle.std.proofs.Common.{◌≡◌, Bool, true, false, List, [], ap, sym, ◌∙◌}
use Rattle.cat_model.specs.declared.object.QName.{QName}
use Rattle.cat_model.specs.Values.{Bytes, Named}
use Rattle.restore_plan.specs.declared.entry.Entry as planned
use Rattle.restore_plan.specs.declared.planned.Planned.{Planned}
use Rattle.restore_plan.specs.Order.{foreign_keys, plan, plan_behind}
use Rattle.restore_plan.specs.Serial.{serial, serial_until}
use Rattle.toc_entry.specs.declared.entry.Entry.{Entry}
use Rattle.restore_runs.specs.Endings.{Ending, halted, passed, carried, ending}

abbrev SameRestores : Type 0
SameRestores = (boot : Bytes) (named : Named) (es : List planned.Entry) (parents others : List (QName × QName)) → serial boot named (plan_behind parents [] es) ≡ serial boot named (plan_behind others [] es)

abbrev SameStops : Type 0
SameStops = (boot : Bytes) (named : Named) (es : List planned.Entry) (parents others : List (QName × QName)) → serial_until boot named (plan_behind parents [] es) ≡ serial_until boot named (plan_behind others [] es)

same_carried : (stop : Bool) (teller boot : Bytes) (entries : List Entry) (wanted : List planned.Entry) (named : Named) → SameRestores → SameStops →
    carried stop teller boot entries (plan named wanted) named ≡ carried stop teller boot entries (plan_behind [] [] wanted) named
same_carried true teller boot entries wanted named restores stops = ap (halted teller) (stops boot named wanted (foreign_keys named) [])
same_carried false teller boot entries wanted named restores stops = ap (passed teller entries) (restores boot named wanted (foreign_keys named) [])

pub same_ending : (stop : Bool) (teller boot : Bytes) (entries : List Entry) (wanted : List planned.Entry) (named : Named) (ps : List Planned) → ps ≡ plan_behind [] [] wanted → SameRestores → SameStops →
    ending stop teller boot entries wanted named ≡ carried stop teller boot entries ps named
unfolding ending
same_ending stop teller boot entries wanted named ps is restores stops =
    same_carried stop teller boot entries wanted named restores stops ∙ sym (ap (λ (qs : List Planned). carried stop teller boot entries qs named) is)
