-- The primary key's columns are those that were found among the constraints, and each row has a field.
use Rattle.std.proofs.Common.{List, ap, ◌∙◌}
use Rattle.std.proofs.lemmas.Result.{IfOk-weaker}
use Rattle.cat_model.specs.CopiedRows.{copied_rows}
use Rattle.cat_model.specs.Values.{Bytes}
use Rattle.copy_effects.proofs.Filled.{copied_filled}
use Rattle.copy_effects.proofs.copying.rows_read.Goals as goal

pub returns-clause-rows : goal.returns-clause-rows
returns-clause-rows c =
    IfOk-weaker c.copied.result _ _
    (λ rows e. e ∙ ap (λ (primary : List Bytes). copied_rows c.args.columns.now c.args.names.now primary c.args.source) c.in_ok-primary.ensures)
    c.copied.ensures

pub returns-clause-full : goal.returns-clause-full
returns-clause-full c = IfOk-weaker c.copied.result _ _ (λ rows e. copied_filled _ _ _ _ rows e) c.copied.ensures
