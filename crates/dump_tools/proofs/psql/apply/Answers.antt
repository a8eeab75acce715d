use Rattle.std.proofs.Common.{None, Result, inl, refl, sym, subst}
use Rattle.std.proofs.lemmas.Result.{IfOk-weaker, IfErr-weaker, on_err_weaker, err_from_is_err_and}
use Rattle.tool_words.specs.declared.outcome.Outcome.{Outcome}
use Rattle.tool_words.proofs.Lining.{always_err}
use Rattle.dump_tools.specs.Due.{Plan, IsAnswerDue}
use Rattle.dump_tools.proofs.Counting.{reading_failed}
use Rattle.dump_tools.proofs.Putting.{cut_kept, cut_due}
use Rattle.dump_tools.proofs.Scripting.{text_read, text_refused, text_done}
use Rattle.dump_tools.proofs.psql.apply.Goals as goal

-- the text isn't read
pub returns-in_err-statements-clause-cut : goal.returns-in_err-statements-clause-cut
returns-in_err-statements-clause-cut g c =
    always_err c.from_residual.result
    (λ teller tree left printed known. cut_kept teller _ _ _ left printed _ refl)

pub returns-in_err-statements-clause-refused : goal.returns-in_err-statements-clause-refused
returns-in_err-statements-clause-refused g c =
    let p = err_from_is_err_and c.from_residual.result c.from_residual.ensures.1 in
    rw (p.1, p.2) (λ tree known. inl (text_refused _ c.args.folder.now c.args.stop c.args.text.now tree c.in_err-statements.ensures.exact))

pub returns-in_err-statements-clause-counted : goal.returns-in_err-statements-clause-counted
returns-in_err-statements-clause-counted g c = λ inputs prints.
    let p = err_from_is_err_and c.from_residual.result c.from_residual.ensures.1 in
    rw (p.1, p.2) (reading_failed c.read_statements.result _ _ _ _ _ _ c.in_err-statements.was (c.read_statements.ensures.count (g.F.Files.read_faults c.args.files.now)))

-- what is due of its statements is due of the text
pub returns-clause-refused : goal.returns-clause-refused
returns-clause-refused g c =
    IfErr-weaker c.apply_statements-answer.result _ _ (λ outcome due tree known.
    subst (λ (d : Result Plan Outcome). IsAnswerDue outcome d) (sym (text_read c.args.folder.now c.args.stop c.args.text.now tree c.in_ok-statements.statements.items c.in_ok-statements.ensures.exact))
    (rw c.deref.ensures.value at (due tree known)))
    c.apply_statements-answer.ensures.refused

pub returns-clause-done : goal.returns-clause-done
returns-clause-done g c =
    IfOk-weaker c.apply_statements-answer.result _ _ (λ answer done tree printed known.
    text_done c.args.folder.now c.args.stop c.args.text.now tree c.in_ok-statements.statements.items answer _ _ printed _ _ c.in_ok-statements.ensures.exact
    (rw c.deref.ensures.value at (done tree printed known)))
    c.apply_statements-answer.ensures.done

pub returns-clause-cut : goal.returns-clause-cut
returns-clause-cut g c =
    on_err_weaker c.apply_statements-answer.result (λ cut teller tree left printed known.
    cut_due teller None None _ _ _ _ refl (text_read c.args.folder.now c.args.stop c.args.text.now tree c.in_ok-statements.statements.items c.in_ok-statements.ensures.exact)
    (rw c.deref.ensures.value at (cut teller tree left printed known)))
    c.apply_statements-answer.ensures.cut
