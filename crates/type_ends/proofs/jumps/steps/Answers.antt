use Rattle.std.proofs.Common.{◌++◌, ◌∷◌, [], ap, sym, ◌∙◌}
use Rattle.type_ends.specs.Steps.{step_of}
use Rattle.type_ends.proofs.Numbered.{numbered_more}
use Rattle.type_ends.proofs.jumps.steps.Goals as goal

pub loop-place-preserved : goal.loop-place-preserved
loop-place-preserved c =
    let oids = c.args.oids.now in
    let rows = c.args.rows.now in
    let i = c.loop-place.place in
    let row = c.index-rows-place.result in
    c.in_ok-push.ensures.items
    ∙ ap (λ s. c.loop-place.steps.items ++ s ∷ []) c.step-step.ensures
    ∙ ap (λ ss. ss ++ step_of oids i row ∷ []) c.loop-place.invariant
    ∙ sym (numbered_more (step_of oids) rows i row c.loop-place-test.true c.index-rows-place.is)
