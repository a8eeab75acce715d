use Rattle.std.proofs.Common.{refl}
use Rattle.std.proofs.lemmas.Result.{on_err_weaker, IfOk-weaker}
use Rattle.tool_words.specs.declared.outcome.Outcome.TheVariants.{Done}
use Rattle.dump_tools.specs.Due.{application_of, report_of}
use Rattle.tool_words.proofs.Lining.{always_err}
use Rattle.dump_tools.proofs.Ending.{applied}
use Rattle.dump_tools.proofs.Putting.{may_apply, cut_in_files, cut_in_told}
use Rattle.dump_tools.proofs.psql.apply_schemas.Goals as goal

-- the writing of the folder ended on its way
pub returns-in_err-write_folder-clause-cut : goal.returns-in_err-write_folder-clause-cut
returns-in_err-write_folder-clause-cut g c =
    let plan = application_of c.args.folder.now c.args.statements.now c.args.schemas in
    always_err c.from_residual-in_err-write_folder.result
    (λ teller left printed. cut_in_files teller _ _ (report_of plan) Done
    (may_apply plan _ _ c.in_ok-report.ensures.grown c.in_ok-report.ensures.applied c.in_ok-namespaces.ensures)
    _ _ left printed _ (rw c.deref.ensures.value at c.in_err-write_folder.ensures.err))

pub returns-clause-ok : goal.returns-clause-ok
returns-clause-ok g c =
    IfOk-weaker c.write_report.result _ _ (λ _ r printed. (
      applied (application_of c.args.folder.now c.args.statements.now c.args.schemas) _ _ _ _ c.in_ok-report.ensures.grown c.in_ok-report.ensures.applied c.in_ok-namespaces.ensures (rw c.deref.ensures.value at c.in_ok-write_folder.ensures.ok),
      refl,
      rw c.in_ok-report.ensures.reported at (rw c.deref-2.ensures.value at r),
    )) c.write_report.ensures.ok

-- the telling of the report did
pub returns-clause-cut : goal.returns-clause-cut
returns-clause-cut g c =
    let plan = application_of c.args.folder.now c.args.statements.now c.args.schemas in
    on_err_weaker c.write_report.result (λ part teller left printed. cut_in_told teller _ _ (report_of plan) Done
    (may_apply plan _ _ c.in_ok-report.ensures.grown c.in_ok-report.ensures.applied c.in_ok-namespaces.ensures)
    _ _ left printed _ _ (rw c.deref.ensures.value at c.in_ok-write_folder.ensures.ok)
    (rw c.in_ok-report.ensures.reported at (rw c.deref-2.ensures.value at part)))
    c.write_report.ensures.err
