use Rattle.std.proofs.Common.{◌∙◌}
use Rattle.std.proofs.lemmas.Result.{IfOk-weaker}
use Rattle.same_folders.proofs.as_one.open_as_one.Goals as goal

pub returns-in-Ok-clause-one : goal.returns-in-Ok-clause-one
returns-in-Ok-clause-one g c =
    let read = c.in-Ok.ensures in
    IfOk-weaker c.open_with.result _ _ (λ one all yes tree known. all yes tree (read.kept ∙ known) (read.due tree known) (read.bytes tree known))
    c.open_with.ensures.one
