use Rattle.std.proofs.Common.{inl, ◌∙◌}
use Rattle.std.proofs.lemmas.Result.{IfOk-weaker, IfErr-weaker, err_from_is_err_and}
use Rattle.exports.proofs.Steps.{texts_refused}
use Rattle.dump_tools.specs.Due.{compare_due}
use Rattle.dump_tools.proofs.CutOff.{done_since}
use Rattle.dump_tools.proofs.Comparing.{export_unread}
use Rattle.dump_tools.proofs.tools.compare_folders.Goals as goal

-- the first folder isn't an export
pub returns-in_err-texts-clause-refused : goal.returns-in_err-texts-clause-refused
returns-in_err-texts-clause-refused g c =
    let p = err_from_is_err_and c.from_residual.result c.from_residual.ensures.1 in
    rw (p.1, p.2) (λ tree known. inl (export_unread _ c.args.first.now c.args.second.now tree (texts_refused _ c.args.first.now tree (c.in_err-texts.ensures.due tree known))))

-- what is due of its texts is due of both
pub returns-clause-done : goal.returns-clause-done
returns-clause-done g c =
    IfOk-weaker c.compare_texts.result _ _ (λ answer done tree printed told known.
    done_since (compare_due c.args.first.now c.args.second.now tree) answer _ _ _ printed told c.in_ok-texts.ensures.kept (done tree printed told (c.in_ok-texts.ensures.kept ∙ known) (c.in_ok-texts.ensures.due tree known)))
    c.compare_texts.ensures.done

pub returns-clause-refused : goal.returns-clause-refused
returns-clause-refused g c =
    IfErr-weaker c.compare_texts.result _ _ (λ outcome due tree known. due tree (c.in_ok-texts.ensures.kept ∙ known) (c.in_ok-texts.ensures.due tree known))
    c.compare_texts.ensures.refused
