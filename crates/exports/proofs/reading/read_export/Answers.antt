use Rattle.std.proofs.Common.{sym, ◌∙◌}
use Rattle.std.proofs.lemmas.Result.{err_from_is_err_and}
use Rattle.exports.proofs.Steps.{gives_along, texts_held, texts_refused}
use Rattle.exports.proofs.reading.read_export.Goals as goal

-- the texts weren't read
pub returns-in_err-texts-clause-due : goal.returns-in_err-texts-clause-due
returns-in_err-texts-clause-due g c = λ tree told.
    let p = err_from_is_err_and c.from_residual.result c.from_residual.ensures.1 in
    rw (p.1, p.2) (texts_refused _ c.args.folder.now tree (c.in_err-texts.ensures.due tree told))

-- what is due of them is due of the folder
pub returns-clause-due : goal.returns-clause-due
returns-clause-due g c = λ tree told.
    gives_along c.into_export.result _ _ (sym (texts_held c.args.folder.now tree c.in_ok-texts.texts (c.in_ok-texts.ensures.due tree told))) c.into_export.ensures.due
