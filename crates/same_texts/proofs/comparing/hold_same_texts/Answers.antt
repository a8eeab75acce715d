use Rattle.std.proofs.Common.{◌∙◌}
use Rattle.std.proofs.lemmas.Result.{IfOk-weaker}
use Rattle.same_texts.proofs.comparing.hold_same_texts.Goals as goal

pub returns-clause-same : goal.returns-clause-same
returns-clause-same g c =
    IfOk-weaker c.have_same_rows.result _ _ (λ _ same yes tree known.
    let front = c.in_ok-have_same_catalogue.ensures.same c.if-not-branch.false tree known in
    record { marker = front.0; tables = front.1; data_files = same yes tree (c.in_ok-have_same_catalogue.ensures.kept ∙ known) })
    c.have_same_rows.ensures.same
