use Rattle.std.proofs.Common.{List, [], ◌∷◌, ◌++◌, ◌+◌, drop, sym, ap, append_assoc, ◌∙◌}
use Rattle.object_ids.specs.Slots.{Slot}
use Rattle.entry_ids.specs.Entries.{labels_from}
use Rattle.entry_ids.proofs.Labels.{more_labels}
use Rattle.entry_ids.proofs.slots.push_labels.Goals as goal

pub loop-place-preserved : goal.loop-place-preserved
loop-place-preserved c =
    let path = c.args.path.now in
    let place = c.loop-place.place in
    let labels = c.args.labels.now in
    let old = c.loop-place.slots.items in
    let rest = labels_from path (place + 1) (drop (place + 1) labels) in
    ap (λ (xs : List Slot). xs ++ rest) c.in_ok-push.ensures
    ∙ append_assoc old (c.in_ok-label_slot.field-0 ∷ []) rest
    ∙ ap (λ (s : Slot). old ++ (s ∷ rest)) c.in_ok-label_slot.ensures
    ∙ ap (λ (xs : List Slot). old ++ xs) (sym (more_labels path labels place c.loop-place-test.true))
    ∙ c.loop-place.invariant
