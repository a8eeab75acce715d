use Rattle.std.proofs.Common.{inl, refl, sym, subst, ◌∙◌}
use Rattle.std.specs.Prelude.{Result}
use Rattle.std.proofs.lemmas.Result.{IfOk-weaker, IfErr-weaker, err_from_is_err_and}
use Rattle.tool_words.specs.declared.outcome.Outcome.{Outcome}
use Rattle.dump_tools.specs.Due.{Plan, IsAnswerDue}
use Rattle.dump_tools.proofs.Comparing.{export_opened, export_refused, first_done, first_read}
use Rattle.dump_tools.proofs.tools.compare_export.Goals as goal

-- the rows don't meet their tables
pub returns-in_err-one-clause-refused : goal.returns-in_err-one-clause-refused
returns-in_err-one-clause-refused g c =
    let p = err_from_is_err_and c.from_residual.result c.from_residual.ensures.1 in
    rw (p.1, p.2) (λ tree known read. inl (export_refused _ c.args.first.now c.args.second.now tree c.args.export read c.in_err-one.ensures.due))

pub returns-clause-done : goal.returns-clause-done
returns-clause-done g c =
    let first = c.args.first.now in
    let second = c.args.second.now in
    IfOk-weaker c.compare_with-answer.result _ _ (λ answer done tree printed told known read.
    let opened = export_opened first tree c.args.export c.in_ok-one.one read c.in_ok-one.ensures.due in
    first_done first second tree c.in_ok-one.one answer _ _ _ printed told opened refl (done tree printed told known opened))
    c.compare_with-answer.ensures.done

pub returns-clause-refused : goal.returns-clause-refused
returns-clause-refused g c =
    let first = c.args.first.now in
    let second = c.args.second.now in
    IfErr-weaker c.compare_with-answer.result _ _ (λ outcome due tree known read.
    subst (λ (d : Result Plan Outcome). IsAnswerDue outcome d) (sym (first_read first second tree c.in_ok-one.one (export_opened first tree c.args.export c.in_ok-one.one read c.in_ok-one.ensures.due)))
    (due tree known))
    c.compare_with-answer.ensures.refused
