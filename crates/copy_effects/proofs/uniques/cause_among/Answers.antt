-- The keys are those by name, and the rows one behind the other.
use Rattle.std.proofs.Common.{ap, ◌∙◌}
use Rattle.std.proofs.lemmas.Result.{IfOk-weaker}
use Rattle.cat_model.specs.CopyEffect.{by_name}
use Rattle.rows_fit.specs.KeyCauses.{unique_cause}
use Rattle.copy_effects.proofs.uniques.cause_among.Goals as goal

pub returns : goal.returns
returns c =
    let keys = c.deref.ensures.value ∙ c.in_ok-keys.ensures ∙ ap by_name c.in_ok-unsorted.ensures in
    IfOk-weaker c.unique_cause.result _ _
    (λ cause e. e ∙ (λ i. unique_cause (keys i) c.args.columns.now (c.new.ensures i)))
    c.unique_cause.ensures
