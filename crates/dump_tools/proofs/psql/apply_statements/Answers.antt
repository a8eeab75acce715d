use Rattle.std.proofs.lemmas.Result.{IfOk-weaker, on_err_weaker}
use Rattle.tool_words.proofs.Lining.{always_err}
use Rattle.dump_tools.specs.Due.{plan_of}
use Rattle.dump_tools.proofs.Counting.{step_writing}
use Rattle.dump_tools.proofs.Putting.{cut_kept, cut_due}
use Rattle.std.proofs.Common.{None, refl, ◌∙◌}
use Rattle.dump_tools.proofs.Ending.{both_ok}
use Rattle.dump_tools.proofs.psql.apply_statements.Goals as goal

-- nothing was put out before all was read
pub returns-in_err-work-clause-cut : goal.returns-in_err-work-clause-cut
returns-in_err-work-clause-cut g c =
    always_err c.from_residual.result
    (λ teller tree left printed known. cut_kept teller _ _ _ left printed _ c.in_err-work.ensures.kept)

-- the plan that is due was carried out, whatever was printed before
pub returns-clause-done : goal.returns-clause-done
returns-clause-done g c =
    IfOk-weaker c.carry_out.result _ _ (λ answer done tree printed told. let carried = done.1 in record {
      plan = plan_of c.args.folder.now c.args.stop c.args.statements.now c.in_ok-work.work;
      is_due = c.in_ok-work.ensures.due tree told;
      answers = done.0;
      carried = rw c.in_ok-work.ensures.kept at (carried printed);
    }) (both_ok c.carry_out.result _ _ c.carry_out.ensures.answers c.carry_out.ensures.ok)

-- or its outputs were cut short
pub returns-clause-cut : goal.returns-clause-cut
returns-clause-cut g c =
    on_err_weaker c.carry_out.result (λ cut teller tree left printed known.
    cut_due teller None None _ _ _ _ refl (c.in_ok-work.ensures.due tree known) (rw c.in_ok-work.ensures.kept at (cut teller left printed)))
    c.carry_out.ensures.cut

pub returns-clause-counted : goal.returns-clause-counted
returns-clause-counted g c = λ inputs prints.
    step_writing c.carry_out.result _ _ inputs _ _ prints _ _ c.carry_out.ensures.unread (c.carry_out.ensures.read_count ∙ c.in_ok-work.ensures.read_count)
    (rw c.in_ok-work.ensures.write_count at c.carry_out.ensures.write_count)
