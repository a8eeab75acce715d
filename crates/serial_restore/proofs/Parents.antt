-- The foreign keys with which a plan is made are in the footprints of its entries alone, at which one worker doesn't look.
use Rattle.std.proofs.Common.{◌≡◌, List, [], ◌∷◌, ◌++◌, Some, None, refl, ap}
use Rattle.cat_model.specs.declared.object.QName.{QName}
use Rattle.cat_model.specs.Values.{Bytes, Named}
use Rattle.restore_plan.specs.declared.entry.Entry.{Entry}
use Rattle.restore_plan.specs.Entries.{deps}
use Rattle.restore_plan.specs.Order.{foreign_keys_in, planned, plan_behind}
use Rattle.restore_plan.specs.Serial.{Ended, Left, Stopped, first_blocked, entry_left, with_entry, serial_behind, steps_until, serial_until}

pub same_restore : (boot : Bytes) (ended : Ended) (named : Named) (earlier es : List Entry) (parents others : List (QName × QName)) → serial_behind boot ended named (plan_behind parents earlier es) ≡ serial_behind boot ended named (plan_behind others earlier es)
same_restore boot ended named earlier [] parents others = refl
same_restore boot ended named earlier (e ∷ es) parents others =
    let l : Left = entry_left boot (planned parents earlier e) named (first_blocked ended (deps earlier e)) in
    ap (with_entry l) (same_restore boot (ended ++ (e.id, l.status) ∷ []) l.catalogue (earlier ++ e ∷ []) es (parents ++ foreign_keys_in e.steps) (others ++ foreign_keys_in e.steps))

pub same_stop : (boot : Bytes) (named : Named) (earlier es : List Entry) (parents others : List (QName × QName)) → serial_until boot named (plan_behind parents earlier es) ≡ serial_until boot named (plan_behind others earlier es)
same_stop boot named earlier [] parents others = refl
same_stop boot named earlier (e ∷ es) parents others =
    let s : Stopped = steps_until boot e.id e.steps named in
    ap (λ (x : Stopped). elim s.at [ None ↦ x | Some note ↦ s ]) (same_stop boot s.catalogue (earlier ++ e ∷ []) es (parents ++ foreign_keys_in e.steps) (others ++ foreign_keys_in e.steps))
