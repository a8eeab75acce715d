use Rattle.std.proofs.Common.{None, Result, inl, refl, sym, subst, ◌∙◌}
use Rattle.std.proofs.lemmas.Result.{IfOk-weaker, IfErr-weaker, on_err_weaker, err_from_is_err_and}
use Rattle.tool_words.specs.declared.outcome.Outcome.{Outcome}
use Rattle.tool_words.proofs.Lining.{always_err}
use Rattle.dump_tools.specs.Due.{Plan, IsAnswerDue}
use Rattle.dump_tools.proofs.Counting.{step_behind}
use Rattle.dump_tools.proofs.Putting.{cut_due}
use Rattle.dump_tools.proofs.Scripting.{psql_read, psql_refused, psql_done}
use Rattle.dump_tools.proofs.Taking.{begun, behind_cut, cut_taking}
use Rattle.dump_tools.proofs.psql.psql.Goals as goal

-- nothing but the input, or some of it, was taken
pub returns-in_err-text-clause-cut : goal.returns-in_err-text-clause-cut
returns-in_err-text-clause-cut g c =
    always_err c.from_residual.result
    (λ teller tree bytes printed known tells. rw c.in_err-text.ensures.kept (cut_taking _ _ _ teller _ _ printed _ (c.in_err-text.ensures.part bytes tells)))

pub returns-in_err-text-clause-refused : goal.returns-in_err-text-clause-refused
returns-in_err-text-clause-refused g c =
    let p = err_from_is_err_and c.from_residual.result c.from_residual.ensures.1 in
    rw (p.1, p.2) (λ tree bytes known tells. inl (psql_refused _ c.args.folder.now c.args.script.now c.args.stop tree bytes (c.in_err-text.ensures.due tree bytes known tells)))

pub returns-clause-refused : goal.returns-clause-refused
returns-clause-refused g c =
    IfErr-weaker c.apply.result _ _ (λ outcome due tree bytes known tells.
    subst (λ (d : Result Plan Outcome). IsAnswerDue outcome d) (sym (psql_read c.args.folder.now c.args.script.now c.args.stop tree bytes c.in_ok-text.text.items (c.in_ok-text.ensures.due tree bytes known tells)))
    (rw c.deref.ensures.value at (due tree (c.in_ok-text.ensures.kept ∙ known))))
    c.apply.ensures.refused

-- reading the text raised no count
pub returns-clause-counted : goal.returns-clause-counted
returns-clause-counted g c = λ prints.
    step_behind c.apply.result _ _ _ (c.in_ok-text.ensures.counted prints (g.E.Sink.faults c.args.err.now))
    (c.apply.ensures.counted (g.I.Source.faults c.read_source.new.input) prints)

-- the plan that is due was carried out
pub returns-clause-done : goal.returns-clause-done
returns-clause-done g c =
    IfOk-weaker c.apply.result _ _ (λ answer done tree bytes printed known tells.
    psql_done c.args.folder.now c.args.script.now c.args.stop tree bytes c.in_ok-text.text.items answer _ _ _ printed _ _ (c.in_ok-text.ensures.due tree bytes known tells) c.in_ok-text.ensures.kept
    (rw c.deref.ensures.value at (done tree printed (c.in_ok-text.ensures.kept ∙ known))))
    c.apply.ensures.done

-- or its outputs were cut short
pub returns-clause-cut : goal.returns-clause-cut
returns-clause-cut g c =
    on_err_weaker c.apply.result (λ cut teller tree bytes printed known tells.
    behind_cut _ teller _ _ _ _
    (begun _ _ _ _ _ printed printed _ _ (c.in_ok-text.ensures.taken bytes tells) c.in_ok-text.ensures.kept refl refl)
    (cut_due teller None None _ _ _ _ refl (psql_read c.args.folder.now c.args.script.now c.args.stop tree bytes c.in_ok-text.text.items (c.in_ok-text.ensures.due tree bytes known tells))
    (rw c.deref.ensures.value at (cut teller tree (g.I.Source.left c.read_source.new.input) printed (c.in_ok-text.ensures.kept ∙ known)))))
    c.apply.ensures.cut
