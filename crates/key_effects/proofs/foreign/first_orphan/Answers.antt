-- The tables that were made have these columns, and the rows are those of the tables.
use Rattle.std.proofs.Common.{◌∙◌}
use Rattle.std.proofs.lemmas.Result.{IfOk-weaker}
use Rattle.cat_model.specs.Tables.{orphan}
use Rattle.key_effects.proofs.foreign.first_orphan.Goals as goal

pub returns : goal.returns
returns c =
    let new = c.args.new in
    IfOk-weaker c.orphan_among.result _ _
    (λ row e. e ∙ (λ i. orphan (c.in_ok-table.ensures i) new.columns.now ((c.deref.ensures.value ∙ c.in_ok-rows.ensures) i) (c.in_ok-parent_table.ensures i) new.parent_columns.now ((c.deref-2.ensures.value ∙ c.in_ok-parent_rows.ensures) i)))
    c.orphan_among.ensures
