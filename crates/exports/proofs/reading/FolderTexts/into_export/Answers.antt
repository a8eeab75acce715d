use Rattle.std.proofs.Common.{subst}
use Rattle.std.proofs.lemmas.Result.{err_from_is_err_and}
use Rattle.tool_words.specs.Answers.{IsDue}
use Rattle.tool_words.specs.Outcomes.{check_values_outcome}
use Rattle.exports.specs.Exports.{Exported, held}
use Rattle.exports.proofs.Steps.{values_due}
use Rattle.exports.proofs.reading.FolderTexts.into_export.Goals as goal

pub returns-in_err-check_values-clause-due : goal.returns-in_err-check_values-clause-due
returns-in_err-check_values-clause-due c =
    let p = err_from_is_err_and c.from_residual.result c.from_residual.ensures.1 in
    rw (p.1, p.2)
    (subst (λ (e : Exported). IsDue (check_values_outcome c.in_err-check_values.field-0.0) (held e)) c.self.view_is
    (values_due c.self.inside.cat c.self.inside.rows _ (rw c.rows.ensures at c.in_err-check_values.ensures)))
