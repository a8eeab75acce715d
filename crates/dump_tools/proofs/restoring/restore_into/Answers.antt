use Rattle.std.proofs.Common.{None, Result, inl, refl, sym, subst}
use Rattle.std.proofs.lemmas.Result.{IfOk-weaker, IfErr-weaker, on_err_weaker, err_from_is_err_and}
use Rattle.tool_words.proofs.Lining.{always_err}
use Rattle.tool_words.specs.declared.outcome.Outcome.{Outcome}
use Rattle.dump_tools.specs.Due.{Plan, IsAnswerDue}
use Rattle.dump_tools.proofs.Counting.{step_behind}
use Rattle.dump_tools.proofs.Putting.{cut_due}
use Rattle.dump_tools.proofs.Restored.{folder_read, folder_refused, folder_done}
use Rattle.dump_tools.proofs.Scripting.{takes_any}
use Rattle.dump_tools.proofs.Taking.{begun, behind_cut, cut_taking}
use Rattle.dump_tools.proofs.restoring.restore_into.Goals as goal

-- nothing but the input, or some of it, was taken
pub returns-in_err-piped-clause-cut : goal.returns-in_err-piped-clause-cut
returns-in_err-piped-clause-cut g c =
    always_err c.from_residual.result
    (λ teller tree bytes printed known tells. cut_taking _ _ _ teller _ _ printed _ (c.in_err-piped.ensures.part bytes tells))

pub returns-in_err-piped-clause-refused : goal.returns-in_err-piped-clause-refused
returns-in_err-piped-clause-refused g c =
    let p = err_from_is_err_and c.from_residual.result c.from_residual.ensures.1 in
    rw (p.1, p.2) (λ tree bytes known tells. inl (folder_refused _ c.args.asked.now tree bytes (c.in_err-piped.ensures.due bytes tells)))

-- what was due was done, or cut short
pub returns-clause-refused : goal.returns-clause-refused
returns-clause-refused g c =
    IfErr-weaker c.restore_piped.result _ _ (λ outcome due tree bytes known tells.
    subst (λ (d : Result Plan Outcome). IsAnswerDue outcome d) (sym (folder_read c.args.asked.now tree bytes c.in_ok-piped.piped.items (c.in_ok-piped.ensures.due bytes tells)))
    (rw c.deref.ensures.value at (due tree known)))
    c.restore_piped.ensures.refused

pub returns-clause-taken : goal.returns-clause-taken
returns-clause-taken g c = λ bytes tells. takes_any c.restore_piped.result _ _ _ (c.in_ok-piped.ensures.taken bytes tells)

pub returns-clause-counted : goal.returns-clause-counted
returns-clause-counted g c = λ prints.
    step_behind c.restore_piped.result _ _ _ (c.in_ok-piped.ensures.counted (g.F.Files.read_faults c.args.files.now) (g.F.Files.write_faults c.args.files.now) prints (g.E.Sink.faults c.args.err.now))
    (c.restore_piped.ensures.counted (g.I.Source.faults c.piped_archive.new.input) prints)

pub returns-clause-done : goal.returns-clause-done
returns-clause-done g c =
    IfOk-weaker c.restore_piped.result _ _ (λ answer done tree bytes printed known tells.
    folder_done c.args.asked.now tree bytes c.in_ok-piped.piped.items answer _ _ printed _ _ (c.in_ok-piped.ensures.due bytes tells)
    (rw c.deref.ensures.value at (done tree printed known)))
    c.restore_piped.ensures.done

pub returns-clause-cut : goal.returns-clause-cut
returns-clause-cut g c =
    on_err_weaker c.restore_piped.result (λ cut teller tree bytes printed known tells.
    behind_cut _ teller _ _ _ _
    (begun _ _ _ _ _ printed printed _ _ (c.in_ok-piped.ensures.taken bytes tells) refl refl refl)
    (cut_due teller None None _ _ _ _ refl (folder_read c.args.asked.now tree bytes c.in_ok-piped.piped.items (c.in_ok-piped.ensures.due bytes tells))
    (rw c.deref.ensures.value at (cut teller tree (g.I.Source.left c.piped_archive.new.input) printed known))))
    c.restore_piped.ensures.cut
