use Rattle.std.proofs.Common.{◌∙◌}
use Rattle.std.proofs.lemmas.Result.{IfOk-weaker}
use Rattle.dump_ports.specs.Tree.{text_at}
use Rattle.same_texts.proofs.Parts.{whole_text}
use Rattle.same_texts.proofs.pieces.is_text.Goals as goal

pub returns-clause-same : goal.returns-clause-same
returns-clause-same g c =
    IfOk-weaker c.begins_with.result _ _ (λ same begins yes tree known.
    whole_text (text_at tree c.args.name.now) c.args.text.now (c.in_ok-is_as_long.ensures.same c.if-not-branch.false tree known) (begins yes tree (c.in_ok-is_as_long.ensures.kept ∙ known)))
    c.begins_with.ensures.same
