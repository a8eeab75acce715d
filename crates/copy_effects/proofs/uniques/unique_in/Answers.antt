-- Of which table it is doesn't matter.
use Rattle.std.proofs.Common.{sym, ap, ◌∙◌}
use Rattle.std.proofs.lemmas.Result.{IfOk-weaker}
use Rattle.cat_model.specs.declared.key.Key.{Key}
use Rattle.cat_model.specs.CopyEffect.{unique_in}
use Rattle.copy_effects.proofs.uniques.unique_in.Goals as goal

pub returns-in-Con : goal.returns-in-Con
returns-in-Con c =
    IfOk-weaker c.unique_constraint.result _ _ (λ unique e. e c.in-Con.field-0 ∙ ap (λ (k : Key). unique_in (k, c.args.value.now)) (sym c.in-Con.is)) c.unique_constraint.ensures

pub returns-in-Index : goal.returns-in-Index
returns-in-Index c =
    IfOk-weaker c.unique_index.result _ _ (λ unique e. e c.in-Index.field-0 ∙ ap (λ (k : Key). unique_in (k, c.args.value.now)) (sym c.in-Index.is)) c.unique_index.ensures
