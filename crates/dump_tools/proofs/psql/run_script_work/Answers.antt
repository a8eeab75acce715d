use Rattle.std.proofs.Common.{refl}
use Rattle.std.proofs.lemmas.Result.{on_err_weaker, IfOk-weaker, err_from_is_err_and}
use Rattle.saved_folders.specs.Folders.{files_of}
use Rattle.dump_tools.specs.Due.{running_of, report_of_run, answer_of_run}
use Rattle.dump_tools.proofs.Ending.{unmade_due, leaves}
use Rattle.dump_tools.proofs.Putting.{may_run, cut_in_files, cut_in_told}
use Rattle.dump_tools.proofs.psql.run_script_work.Goals as goal

-- what the script leaves isn't written
pub returns-in_err-run-clause-refused : goal.returns-in_err-run-clause-refused
returns-in_err-run-clause-refused g c =
    let p = err_from_is_err_and c.from_residual.result c.from_residual.ensures.1 in
    rw (p.1, p.2) (unmade_due _ (running_of c.args.folder.now c.args.stop c.args.statements.now c.args.work) c.in_err-run.ensures.unwritten)

-- the writing of the folder ended on its way
pub returns-in-Err-clause-cut : goal.returns-in-Err-clause-cut
returns-in-Err-clause-cut g c =
    let plan = running_of c.args.folder.now c.args.stop c.args.statements.now c.args.work in
    λ teller left printed. cut_in_files teller _ (files_of plan.folder c.in_ok-run.run'.texts.texts) (report_of_run plan) (answer_of_run plan)
    (may_run teller plan c.in_ok-run.run'.texts.texts (leaves plan c.in_ok-run.run'.texts c.in_ok-run.ensures.stands))
    _ _ left printed _ c.in-Err.ensures.err

pub returns-in-Ok-clause-ok : goal.returns-in-Ok-clause-ok
returns-in-Ok-clause-ok g c =
    let plan = running_of c.args.folder.now c.args.stop c.args.statements.now c.args.work in
    IfOk-weaker c.tell_run.result _ _ (λ _ r printed. (
      record {
        texts = c.in_ok-run.run'.texts.texts;
        leaves = leaves plan c.in_ok-run.run'.texts c.in_ok-run.ensures.stands;
        saved = c.in-Ok.ensures.ok;
      },
      refl,
      rw c.in_ok-run.ensures.reported at r,
    )) c.tell_run.ensures.ok

-- the telling of the report did
pub returns-in-Ok-clause-cut : goal.returns-in-Ok-clause-cut
returns-in-Ok-clause-cut g c =
    let plan = running_of c.args.folder.now c.args.stop c.args.statements.now c.args.work in
    on_err_weaker c.tell_run.result (λ part teller left printed. cut_in_told teller _ (files_of plan.folder c.in_ok-run.run'.texts.texts) (report_of_run plan) (answer_of_run plan)
    (may_run teller plan c.in_ok-run.run'.texts.texts (leaves plan c.in_ok-run.run'.texts c.in_ok-run.ensures.stands))
    _ _ left printed _ _ c.in-Ok.ensures.ok
    (rw c.in_ok-run.ensures.reported at part))
    c.tell_run.ensures.err
