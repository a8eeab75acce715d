use Rattle.std.proofs.Common.{◌∙◌}
use Rattle.std.proofs.lemmas.Result.{err_from_is_err_and}
use Rattle.exports.proofs.Steps.{rows_due, told_count}
use Rattle.exports.proofs.reading.read_behind.Goals as goal

pub returns-in_err-rows-clause-due : goal.returns-in_err-rows-clause-due
returns-in_err-rows-clause-due g c = λ tree told.
    let p = err_from_is_err_and c.from_residual-in_err-rows.result c.from_residual-in_err-rows.ensures.1 in
    let cat = c.rows.ensures ∙ c.in_ok-cat.ensures.same in
    rw (p.1, p.2) (rows_due c.args.folder.now c.args.bytes c.args.cat tree _ c.in_ok-cat.ensures.fault (rw cat at (c.in_err-rows.ensures.due tree told)))

pub returns-in_err-rows-clause-read_count : goal.returns-in_err-rows-clause-read_count
returns-in_err-rows-clause-read_count g c =
    let p = err_from_is_err_and c.from_residual-in_err-rows.result c.from_residual-in_err-rows.ensures.1 in
    rw (p.1, p.2) (told_count _ _ _ c.in_err-rows.ensures.read_count)
