use Rattle.std.proofs.Common.{inl, refl, ◌∙◌}
use Rattle.std.proofs.lemmas.Result.{IfOk-weaker, IfErr-weaker, err_from_is_err_and}
use Rattle.exports.proofs.Steps.{texts_held}
use Rattle.openings.specs.Openings.{export_named}
use Rattle.dump_tools.specs.Due.{Compares, compare_due}
use Rattle.dump_tools.proofs.CutOff.{cut_off_due, done_since}
use Rattle.dump_tools.proofs.Comparing.{texts_unheld, first_read, second_read}
use Rattle.dump_tools.proofs.tools.compare_texts.Goals as goal

-- a call failed, or memory ran out
pub returns-in_err-have_one_opening-clause-refused : goal.returns-in_err-have_one_opening-clause-refused
returns-in_err-have_one_opening-clause-refused g c =
    let p = err_from_is_err_and c.from_residual.result c.from_residual.ensures.1 in
    rw (p.1, p.2) (λ tree known read. cut_off_due _ (compare_due c.args.first.now c.args.second.now tree) c.in_err-have_one_opening.ensures.cut_off)

-- both have one opening
pub returns-then-branch-clause-done : goal.returns-then-branch-clause-done
returns-then-branch-clause-done g c = λ tree printed told known read.
    let first = c.args.first.now in
    let second = c.args.second.now in
    let one = c.args.texts in
    record {
      plan = Compares (export_named one) (export_named one);
      is_due = first_read first second tree one (c.in_ok-have_one_opening.ensures.one c.if-branch.true tree known read) ∙ second_read one second tree one (c.in_ok-have_one_opening.ensures.same c.if-branch.true tree known read);
      answers = refl;
      carried = (refl, c.in_ok-have_one_opening.ensures.kept, refl, refl);
    }

-- the texts don't hold rows of their tables
pub returns-in_err-export-clause-refused : goal.returns-in_err-export-clause-refused
returns-in_err-export-clause-refused g c =
    let p = err_from_is_err_and c.from_residual-in_err-export.result c.from_residual-in_err-export.ensures.1 in
    rw (p.1, p.2) (λ tree known read. inl (texts_unheld _ c.args.first.now c.args.second.now tree c.args.texts read c.in_err-export.ensures.due))

-- what is due of the export is due of both
pub returns-clause-done : goal.returns-clause-done
returns-clause-done g c =
    let first = c.args.first.now in
    let second = c.args.second.now in
    let kept = c.in_ok-have_one_opening.ensures.kept in
    IfOk-weaker c.compare_export.result _ _ (λ answer done tree printed told known read.
    done_since (compare_due first second tree) answer _ _ _ printed told kept (done tree printed told (kept ∙ known) (texts_held first tree c.args.texts read ∙ c.in_ok-export.ensures.due)))
    c.compare_export.ensures.done

pub returns-clause-refused : goal.returns-clause-refused
returns-clause-refused g c =
    IfErr-weaker c.compare_export.result _ _ (λ outcome due tree known read.
    due tree (c.in_ok-have_one_opening.ensures.kept ∙ known) (texts_held c.args.first.now tree c.args.texts read ∙ c.in_ok-export.ensures.due))
    c.compare_export.ensures.refused
