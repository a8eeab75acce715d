use Rattle.std.proofs.Common.{◌++◌, ◌∷◌, [], ap, sym, ◌∙◌}
use Rattle.type_ends.specs.Steps.{base_at_place}
use Rattle.type_ends.proofs.Numbered.{numbered_more}
use Rattle.type_ends.proofs.bases.bases.Goals as goal

pub loop-place-preserved : goal.loop-place-preserved
loop-place-preserved c =
    let cat = c.args.book.now in
    let i = c.loop-place.place in
    let row = c.index-rows-place.result in
    c.in_ok-push.ensures.items
    ∙ ap (λ b. c.loop-place.bases.items ++ b ∷ []) c.in_ok-base.ensures
    ∙ ap (λ bs. bs ++ base_at_place cat i row ∷ []) c.loop-place.invariant
    ∙ sym (numbered_more (base_at_place cat) _ i row c.loop-place-test.true c.index-rows-place.is)
