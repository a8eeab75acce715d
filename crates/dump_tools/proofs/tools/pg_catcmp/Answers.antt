use Rattle.std.proofs.Common.{refl, ◌∙◌}
use Rattle.std.proofs.lemmas.Result.{IfOk-weaker, IfErr-weaker, err_from_is_err_and}
use Rattle.openings.specs.Openings.{export_named}
use Rattle.dump_tools.specs.Due.{Compares, compare_due}
use Rattle.dump_tools.proofs.CutOff.{cut_off_due, done_since}
use Rattle.dump_tools.proofs.Comparing.{first_read, second_read}
use Rattle.dump_tools.proofs.tools.pg_catcmp.Goals as goal

-- a call failed, or memory ran out
pub returns-in_err-open_as_one-clause-refused : goal.returns-in_err-open_as_one-clause-refused
returns-in_err-open_as_one-clause-refused g c =
    let p = err_from_is_err_and c.from_residual.result c.from_residual.ensures.1 in
    rw (p.1, p.2) (λ tree known. cut_off_due _ (compare_due c.args.first.now c.args.second.now tree) c.in_err-open_as_one.ensures.cut_off)

-- both have one opening
pub returns-then-branch-clause-done : goal.returns-then-branch-clause-done
returns-then-branch-clause-done g c = λ tree printed told known.
    let first = c.args.first.now in
    let second = c.args.second.now in
    let both = c.in_ok-open_as_one.ensures.one c.if-branch.true tree known in
    record {
      plan = Compares (export_named both.export) (export_named both.export);
      is_due = first_read first second tree both.export both.one ∙ second_read both.export second tree both.export both.other;
      answers = refl;
      carried = (refl, c.in_ok-open_as_one.ensures.kept, refl, refl);
    }

-- what is due of the folders as they are told else
pub returns-clause-done : goal.returns-clause-done
returns-clause-done g c =
    IfOk-weaker c.compare_folders.result _ _ (λ answer done tree printed told known.
    done_since (compare_due c.args.first.now c.args.second.now tree) answer _ _ _ printed told c.in_ok-open_as_one.ensures.kept (done tree printed told (c.in_ok-open_as_one.ensures.kept ∙ known)))
    c.compare_folders.ensures.done

pub returns-clause-refused : goal.returns-clause-refused
returns-clause-refused g c =
    IfErr-weaker c.compare_folders.result _ _ (λ outcome due tree known. due tree (c.in_ok-open_as_one.ensures.kept ∙ known))
    c.compare_folders.ensures.refused
