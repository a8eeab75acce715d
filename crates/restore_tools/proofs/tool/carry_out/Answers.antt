use Rattle.std.proofs.Common.{inl, inr, refl, ◌∙◌}
use Rattle.std.proofs.lemmas.Result.{IfOk-weaker, on_err_weaker, err_from_is_err_and}
use Rattle.tool_words.proofs.Lining.{always_err}
use Rattle.restore_folders.specs.Seen.{work_seen}
use Rattle.restore_folders.specs.Works.{answer_by}
use Rattle.restore_tools.specs.Due.{restoring}
use Rattle.restore_tools.proofs.Ends.{unmade_due}
use Rattle.restore_tools.proofs.tool.carry_out.Goals as goal

-- what the restore leaves isn't written
pub returns-in_err-run-clause-refused : goal.returns-in_err-run-clause-refused
returns-in_err-run-clause-refused g c =
    let p = err_from_is_err_and c.from_residual.result c.from_residual.ensures.1 in
    rw (p.1, p.2) (unmade_due _ (restoring c.args.folder.now c.args.how (work_seen c.args.work)) c.in_err-run.ensures.unwritten)

pub returns-in_err-run-clause-cut : goal.returns-in_err-run-clause-cut
returns-in_err-run-clause-cut g c = always_err c.from_residual.result (inl (record { kept = refl; silent = refl }))

-- the writing of the folder ended on its way
pub returns-in-Err-clause-cut : goal.returns-in-Err-clause-cut
returns-in-Err-clause-cut g c = inr (inl (record {
  texts = c.in_ok-run.run'.texts;
  leaves = c.in_ok-run.ensures.leaves;
  saved = c.in-Err.ensures.err;
  silent = refl;
}))

-- the restore has run
pub returns-in-Ok-clause-answers : goal.returns-in-Ok-clause-answers
returns-in-Ok-clause-answers g c =
    IfOk-weaker c.tell_run.result _ _ (λ answer is. is ∙ (λ i. answer_by (c.in_ok-run.ensures.errors i) (c.in_ok-run.ensures.stopped i)))
    c.tell_run.ensures.answers

pub returns-in-Ok-clause-ok : goal.returns-in-Ok-clause-ok
returns-in-Ok-clause-ok g c =
    IfOk-weaker c.tell_run.result _ _ (λ _ told. record {
      restored = record { texts = c.in_ok-run.run'.texts; leaves = c.in_ok-run.ensures.leaves; saved = c.in-Ok.ensures.ok };
      told = rw c.in_ok-run.ensures.report at told;
    }) c.tell_run.ensures.ok

-- the telling of the report ended on its way
pub returns-in-Ok-clause-cut : goal.returns-in-Ok-clause-cut
returns-in-Ok-clause-cut g c =
    on_err_weaker c.tell_run.result (λ told. inr (inr (record {
      restored = record { texts = c.in_ok-run.run'.texts; leaves = c.in_ok-run.ensures.leaves; saved = c.in-Ok.ensures.ok };
      told = rw c.in_ok-run.ensures.report at told;
    }))) c.tell_run.ensures.err
