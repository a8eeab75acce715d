use Rattle.std.proofs.Common.{None, Result, IfOk, IfErr, sym, ap, subst, ◌∙◌, inl, inr, refl}
use Rattle.std.proofs.lemmas.Result.{IfOk-weaker, IfErr-weaker}
use Rattle.restore_folders.specs.Works.{answer_by}
use Rattle.script_runs.specs.Writing.{IsUnwritten}
use Rattle.tool_words.specs.declared.outcome.Outcome.{Outcome}
use Rattle.clone_restores.specs.declared.restored.Restored.{Restored}
use Rattle.clone_restores.specs.Standing.{IsAnswer, IsUnfailed, IsMade}
use Rattle.clone_restores.proofs.Ends.{answers_end, unfailed_unread, unfailed_count, late_unread, both_err}
use Rattle.clone_restores.proofs.restored.finish.Goals as goal

-- what the restore leaves isn't written
pub returns-in-Err-clause-undone : goal.returns-in-Err-clause-undone
returns-in-Err-clause-undone g c = λ plan is made unwritten. inl (record {
  answers = inr (record { plan = plan; is_due = refl; unwritten = subst (λ (r : Result Restored Outcome). IfErr r (IsUnwritten plan.opening.cat plan.left)) c.in-Err.is unwritten });
  kept = refl;
  silent = refl;
})

pub returns-in-Err-clause-unread : goal.returns-in-Err-clause-unread
returns-in-Err-clause-unread g c = unfailed_unread c.in-Err.outcome (subst (λ (r : Result Restored Outcome). IfErr r IsUnfailed) c.in-Err.is c.requires)

pub returns-in-Err-clause-write_count : goal.returns-in-Err-clause-write_count
returns-in-Err-clause-write_count g c = unfailed_count c.in-Err.outcome _ _ (subst (λ (r : Result Restored Outcome). IfErr r IsUnfailed) c.in-Err.is c.requires)

-- it is
pub returns-in-Ok-clause-ends : goal.returns-in-Ok-clause-ends
returns-in-Ok-clause-ends g c = IfOk-weaker c.put_restored.result _ _ (λ answer is. subst IsAnswer (sym is) (answers_end c.in-Ok.restored.errors)) c.put_restored.ensures.answers

pub returns-in-Ok-clause-answers : goal.returns-in-Ok-clause-answers
returns-in-Ok-clause-answers g c = λ plan made.
    IfOk-weaker c.put_restored.result _ _ (λ answer is. is ∙ ap (λ n. answer_by n None) (subst (λ (r : Result Restored Outcome). IfOk r (IsMade plan)) c.in-Ok.is made).errors)
    c.put_restored.ensures.answers

pub returns-in-Ok-clause-ok : goal.returns-in-Ok-clause-ok
returns-in-Ok-clause-ok g c = λ plan is made. c.put_restored.ensures.ok plan is (subst (λ (r : Result Restored Outcome). IfOk r (IsMade plan)) c.in-Ok.is made)

pub returns-in-Ok-clause-undone : goal.returns-in-Ok-clause-undone
returns-in-Ok-clause-undone g c = λ plan is made unwritten.
    IfErr-weaker c.put_restored.result _ _ (λ outcome h. inr (record { late = h.0; plan = plan; is_due = refl; cut = h.1 }))
    (both_err c.put_restored.result _ _ c.put_restored.ensures.late (c.put_restored.ensures.cut plan is (subst (λ (r : Result Restored Outcome). IfOk r (IsMade plan)) c.in-Ok.is made)))

pub returns-in-Ok-clause-unread : goal.returns-in-Ok-clause-unread
returns-in-Ok-clause-unread g c = IfErr-weaker c.put_restored.result _ _ late_unread c.put_restored.ensures.late
