use Rattle.std.proofs.Common.{◌≡◌, Ok, Result, inl, inr, refl, sym, subst, ◌∙◌}
use Rattle.std.proofs.lemmas.Result.{IfOk-weaker, IfErr-weaker, on_err_weaker, err_from_is_err_and}
use Rattle.tool_words.specs.declared.outcome.Outcome.{Outcome}
use Rattle.tool_words.proofs.Lining.{always_err}
use Rattle.restore_folders.specs.Seen.{work_seen}
use Rattle.restore_folders.specs.Works.{answer_by}
use Rattle.restore_tools.specs.Due.{Restoring, restoring, ending}
use Rattle.restore_tools.specs.Standing.{IsAnswer, IsAnswerDue}
use Rattle.restore_tools.proofs.Ends.{answers_end, both_ok}
use Rattle.restore_tools.proofs.Counting.{unread_count}
use Rattle.restore_tools.proofs.Steps.{restore_read, restore_refused}
use Rattle.restore_tools.proofs.tool.restore_folder.Goals as goal

-- not all was read
pub returns-in_err-work-clause-refused : goal.returns-in_err-work-clause-refused
returns-in_err-work-clause-refused g c =
    let a = c.args in
    let p = err_from_is_err_and c.from_residual.result c.from_residual.ensures.1 in
    rw (p.1, p.2) (λ tree known. inl (restore_refused _ a.folder.now a.archive.now a.words.now a.input.now tree (c.in_err-work.ensures.due tree known)))

pub returns-in_err-work-clause-cut : goal.returns-in_err-work-clause-cut
returns-in_err-work-clause-cut g c =
    always_err c.from_residual.result (λ tree known. inl (record { kept = c.in_err-work.ensures.kept; silent = refl }))

-- the restore has run
pub returns-clause-ends : goal.returns-clause-ends
returns-clause-ends g c =
    let a = c.args in
    let e = ending (restoring a.folder.now c.refusal_of.result (work_seen c.in_ok-work.work)) in
    IfOk-weaker c.carry_out.result _ _ (λ answer is. subst (λ (o : Outcome). IsAnswer o) (sym is) (answers_end e.errors e.stopped)) c.carry_out.ensures.answers

pub returns-clause-done : goal.returns-clause-done
returns-clause-done g c =
    let a = c.args in
    IfOk-weaker c.carry_out.result _ _ (λ answer h tree known. record {
      plan = restoring a.folder.now c.refusal_of.result (work_seen c.in_ok-work.work);
      is_due = restore_read a.folder.now a.archive.now a.words.now a.input.now tree c.refusal_of.result (work_seen c.in_ok-work.work) c.refusal_of.ensures (c.in_ok-work.ensures.due tree known);
      answers = h.0;
      carried = rw c.in_ok-work.ensures.kept at h.1;
    }) (both_ok c.carry_out.result _ _ c.carry_out.ensures.answers c.carry_out.ensures.ok)

pub returns-clause-refused : goal.returns-clause-refused
returns-clause-refused g c =
    let a = c.args in
    IfErr-weaker c.carry_out.result _ _ (λ outcome due tree known.
    subst (λ (d : Result Restoring Outcome). IsAnswerDue outcome d)
    (sym (restore_read a.folder.now a.archive.now a.words.now a.input.now tree c.refusal_of.result (work_seen c.in_ok-work.work) c.refusal_of.ensures (c.in_ok-work.ensures.due tree known)))
    due) c.carry_out.ensures.refused

pub returns-clause-cut : goal.returns-clause-cut
returns-clause-cut g c =
    let a = c.args in
    on_err_weaker c.carry_out.result (λ cut tree known. inr (
      restoring a.folder.now c.refusal_of.result (work_seen c.in_ok-work.work),
      restore_read a.folder.now a.archive.now a.words.now a.input.now tree c.refusal_of.result (work_seen c.in_ok-work.work) c.refusal_of.ensures (c.in_ok-work.ensures.due tree known),
      rw c.in_ok-work.ensures.kept at cut,
    )) c.carry_out.ensures.cut

pub returns-clause-read_count : goal.returns-clause-read_count
returns-clause-read_count g c = unread_count c.carry_out.result _ _ c.carry_out.ensures.unread (c.carry_out.ensures.read_count ∙ c.in_ok-work.ensures.read_count)

pub returns-clause-write_count : goal.returns-clause-write_count
returns-clause-write_count g c = rw c.in_ok-work.ensures.write_count at c.carry_out.ensures.write_count
