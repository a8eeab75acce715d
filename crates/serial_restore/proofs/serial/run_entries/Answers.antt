use Rattle.std.proofs.Common.{◌≡◌, ◌+◌, ◌∷◌, List, drop, ap, sym, subst, ◌∙◌, add-one, drop-cons}
use Rattle.restore_plan.specs.declared.planned.Planned.{Planned}
use Rattle.restore_plan.specs.Serial.{serial}
use Rattle.serial_restore.proofs.Lists.{Going, goes_on}
use Rattle.serial_restore.proofs.serial.run_entries.Goals as goal

pub loop-planned-preserved : goal.loop-planned-preserved
loop-planned-preserved c =
    let l = c.loop-planned in
    let plan = c.args.plan.now in
    let i = l.planned-index in
    let p : Planned = c.planned-item.result in
    let e = c.in_ok-end_entry.ensures in
    let here : drop i plan ≡ p ∷ drop (i + 1) plan = rw add-one (drop-cons plan i p c.loop-planned-test.true) ∙ ap (λ (x : Planned). x ∷ drop (i + 1) plan) (sym c.planned-item.is) in
    let whole = serial c.args.engine.now.boot c.args.engine.now.named plan in
    goes_on l.blocked c.end_entry.new.blocked l.engine.boot c.end_entry.new.engine.boot l.engine.named c.end_entry.new.engine.named p (drop (i + 1) plan) l.statuses.items c.end_entry.new.statuses.items l.notes.items c.end_entry.new.notes.items whole
    e.boot e.left e.known
    (subst (λ (ps : List Planned). Going l.blocked l.engine.boot l.engine.named ps l.statuses.items l.notes.items whole) here l.invariant)
