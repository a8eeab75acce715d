use Rattle.openings.specs.Openings.{export_named}
use Rattle.std.proofs.Common.{refl}
use Rattle.std.proofs.lemmas.Result.{IfOk-weaker, IfErr-weaker}
use Rattle.dump_tools.specs.Due.{Compares}
use Rattle.dump_tools.proofs.Comparing.{second_read, unequal_due}
use Rattle.dump_tools.proofs.tools.compare_second.Goals as goal

-- both stand for the same, and nothing was written
pub returns-clause-done : goal.returns-clause-done
returns-clause-done g c =
    IfOk-weaker c.compare_both-answer.result _ _ (λ answer same tree printed told known. record {
      plan = Compares (export_named c.args.one.now) (export_named c.in_ok-other.other);
      is_due = second_read c.args.one.now c.args.second.now tree c.in_ok-other.other (c.in_ok-other.ensures.due tree known);
      answers = same.0;
      carried = (same.1, c.in_ok-other.ensures.kept, refl, refl);
    }) c.compare_both-answer.ensures.done

-- or not
pub returns-clause-refused : goal.returns-clause-refused
returns-clause-refused g c =
    IfErr-weaker c.compare_both-answer.result _ _ (λ outcome unequal tree known.
    unequal_due outcome (export_named c.args.one.now) (export_named c.in_ok-other.other) _
    (second_read c.args.one.now c.args.second.now tree c.in_ok-other.other (c.in_ok-other.ensures.due tree known)) unequal)
    c.compare_both-answer.ensures.unequal
