use Rattle.std.proofs.Common.{◌∙◌}
use Rattle.std.proofs.lemmas.Result.{IfOk-equal}
use Rattle.cat_rows.proofs.ListLemmas.{one_more}
use Rattle.cat_rows.proofs.sequences.SequenceRowTableRow.write.Goals as goal

pub returns-clause-fields : goal.returns-clause-fields
returns-clause-fields c =
    IfOk-equal c.int-7.result _ _ _ c.int-7.ensures.field
    (one_more _ _ _ _ c.in_ok-oid-2.ensures.field
    ∙ one_more _ _ _ _ c.in_ok-bool-2.ensures.field
    ∙ one_more _ _ _ _ c.in_ok-int-6.ensures.field
    ∙ one_more _ _ _ _ c.in_ok-bool.ensures.field
    ∙ one_more _ _ _ _ c.in_ok-int-5.ensures.field
    ∙ one_more _ _ _ _ c.in_ok-int-4.ensures.field
    ∙ one_more _ _ _ _ c.in_ok-int-3.ensures.field
    ∙ one_more _ _ _ _ c.in_ok-int-2.ensures.field
    ∙ one_more _ _ _ _ c.in_ok-int.ensures.field
    ∙ one_more _ _ _ _ c.in_ok-text.ensures.field
    ∙ one_more _ _ _ _ c.in_ok-oid.ensures.field)
