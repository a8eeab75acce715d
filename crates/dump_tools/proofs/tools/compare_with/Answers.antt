use Rattle.std.proofs.Common.{refl, ◌∙◌}
use Rattle.std.proofs.lemmas.Result.{IfOk-weaker, IfErr-weaker, err_from_is_err_and}
use Rattle.openings.specs.Openings.{export_named}
use Rattle.dump_tools.specs.Due.{Compares, second_due}
use Rattle.dump_tools.proofs.CutOff.{cut_off_due, done_since}
use Rattle.dump_tools.proofs.Comparing.{second_read}
use Rattle.dump_tools.proofs.tools.compare_with.Goals as goal

-- a call failed, or memory ran out
pub returns-in_err-opens_alike-clause-refused : goal.returns-in_err-opens_alike-clause-refused
returns-in_err-opens_alike-clause-refused g c =
    let p = err_from_is_err_and c.from_residual.result c.from_residual.ensures.1 in
    rw (p.1, p.2) (λ tree known. cut_off_due _ (second_due c.args.one.now c.args.second.now tree) c.in_err-opens_alike.ensures.cut_off)

-- both have one opening
pub returns-then-branch-clause-done : goal.returns-then-branch-clause-done
returns-then-branch-clause-done g c = λ tree printed told known read. record {
  plan = Compares (export_named c.args.one.now) (export_named c.args.one.now);
  is_due = second_read c.args.one.now c.args.second.now tree c.args.one.now (c.in_ok-opens_alike.ensures.same c.if-branch.true tree known read);
  answers = refl;
  carried = (refl, c.in_ok-opens_alike.ensures.kept, refl, refl);
}

-- the second folder was read
pub returns-clause-done : goal.returns-clause-done
returns-clause-done g c =
    IfOk-weaker c.compare_second.result _ _ (λ answer done tree printed told known read.
    done_since (second_due c.args.one.now c.args.second.now tree) answer _ _ _ printed told c.in_ok-opens_alike.ensures.kept (done tree printed told (c.in_ok-opens_alike.ensures.kept ∙ known)))
    c.compare_second.ensures.done

pub returns-clause-refused : goal.returns-clause-refused
returns-clause-refused g c =
    IfErr-weaker c.compare_second.result _ _ (λ outcome due tree known. due tree (c.in_ok-opens_alike.ensures.kept ∙ known))
    c.compare_second.ensures.refused
