use Rattle.std.proofs.lemmas.Result.{err_from_is_err_and}
use Rattle.archive_scripts.specs.Directories.{parts_due, directory_script}
use Rattle.archive_scripts.proofs.Steps.{due_behind, script_stops, script_ends}
use Rattle.archive_scripts.proofs.directory.directory_script.Goals as goal

pub returns-in_err-text-2-clause-due : goal.returns-in_err-text-2-clause-due
returns-in_err-text-2-clause-due g c = λ d tree holds told.
    let p = err_from_is_err_and c.from_residual-in_err-text-2.result c.from_residual-in_err-text-2.ensures.1 in
    rw (p.1, p.2) (due_behind _ (parts_due c.args.owners d tree c.args.used c.in_ok-text.text.items c.args.places.now) (directory_script c.args.owners d tree c.args.used c.args.places.now)
    (λ f due. script_stops c.args.owners d tree c.args.used c.in_ok-text.text.items c.args.places.now f (c.in_ok-text.ensures d holds) due)
    (c.in_err-text-2.ensures.due d tree holds told))

pub returns-clause-due : goal.returns-clause-due
returns-clause-due g c = λ d tree holds told.
    script_ends c.args.owners d tree c.args.used c.in_ok-text.text.items c.args.places.now c.in_ok-text-2.text.items c.in_ok-with_end.field-0.items
    (c.in_ok-text.ensures d holds) (c.in_ok-text-2.ensures.due d tree holds told) c.in_ok-with_end.ensures
