-- The table that was made has these columns, and the rows are the table's.
use Rattle.std.proofs.Common.{◌∙◌}
use Rattle.std.proofs.lemmas.Result.{IfOk-weaker}
use Rattle.cat_model.specs.Tables.{null_in}
use Rattle.key_effects.proofs.rows.first_null.Goals as goal

pub returns : goal.returns
returns c =
    IfOk-weaker c.null_among.result _ _ (λ pair e. e ∙ (λ i. null_in 1 (c.in_ok-table.ensures i) c.args.names.now ((c.deref.ensures.value ∙ c.in_ok-rows.ensures) i))) c.null_among.ensures
