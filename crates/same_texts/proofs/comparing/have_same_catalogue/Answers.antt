use Rattle.std.proofs.Common.{◌∙◌}
use Rattle.std.proofs.lemmas.Result.{IfOk-weaker}
use Rattle.same_texts.proofs.comparing.have_same_catalogue.Goals as goal

pub returns-clause-same : goal.returns-clause-same
returns-clause-same g c =
    IfOk-weaker c.have_same_tables.result _ _ (λ _ same yes tree known.
    (c.in_ok-has_same.ensures.same c.if-not-branch.false tree known, same yes tree (c.in_ok-has_same.ensures.kept ∙ known)))
    c.have_same_tables.ensures.same
