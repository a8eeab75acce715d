use Rattle.std.proofs.Common.{ap, ◌∙◌}
use Rattle.type_ends.specs.Enums.{labels_seen}
use Rattle.type_ends.proofs.LabelsAt.{pushed_label, no_label}
use Rattle.type_ends.proofs.enums.labels_at.Goals as goal
use Rattle.type_ends.proofs.enums.labels_at.Goals.{in-Some+in_ok-push, in_default}

pub loop-place-preserved : goal.loop-place-preserved
loop-place-preserved c =
    let rows = c.args.rows.now in
    let places = c.args.places.now in
    let i = c.loop-place.place-index in
    let so_far = c.loop-place.labels.items in
    elim c.match-label_at.branch [
      | in-Some+in_ok-push w ↦ ap (λ ls. labels_seen ls.items) w.labels-is ∙ ap labels_seen w.in_ok-push.ensures.items ∙ pushed_label rows places i so_far w.in-Some.label c.loop-place-test.true c.loop-place.invariant w.in-Some.ensures
      | in_default w ↦ ap (λ ls. labels_seen ls.items) w.labels-is ∙ no_label rows places i so_far c.loop-place-test.true c.loop-place.invariant w.in_default.ensures
    ]
