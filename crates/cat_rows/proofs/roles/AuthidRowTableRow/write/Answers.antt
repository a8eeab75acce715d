use Rattle.std.proofs.Common.{◌∙◌}
use Rattle.std.proofs.lemmas.Result.{IfOk-equal}
use Rattle.cat_rows.proofs.ListLemmas.{one_more}
use Rattle.cat_rows.proofs.roles.AuthidRowTableRow.write.Goals as goal

pub returns-clause-fields : goal.returns-clause-fields
returns-clause-fields c =
    IfOk-equal c.null_text-2.result _ _ _ c.null_text-2.ensures.field
    (one_more _ _ _ _ c.in_ok-null_text.ensures.field
    ∙ one_more _ _ _ _ c.in_ok-int.ensures.field
    ∙ one_more _ _ _ _ c.in_ok-bool-7.ensures.field
    ∙ one_more _ _ _ _ c.in_ok-bool-6.ensures.field
    ∙ one_more _ _ _ _ c.in_ok-bool-5.ensures.field
    ∙ one_more _ _ _ _ c.in_ok-bool-4.ensures.field
    ∙ one_more _ _ _ _ c.in_ok-bool-3.ensures.field
    ∙ one_more _ _ _ _ c.in_ok-bool-2.ensures.field
    ∙ one_more _ _ _ _ c.in_ok-bool.ensures.field
    ∙ one_more _ _ _ _ c.in_ok-name.ensures.field
    ∙ one_more _ _ _ _ c.in_ok-oid.ensures.field)
