use Rattle.std.specs.Option.{option_copied}
use Rattle.std.proofs.lemmas.Result.{err_from_is_err_and}
use Rattle.restore_input.specs.Inputs.{directory_input_due}
use Rattle.restore_input.proofs.Dues.{free_due}
use Rattle.restore_input.proofs.directory.folder_input.Goals as goal

pub returns-in_err-used-clause-due : goal.returns-in_err-used-clause-due
returns-in_err-used-clause-due g c = λ tree told.
    let p = err_from_is_err_and c.from_residual-in_err-used.result c.from_residual-in_err-used.ensures.1 in
    rw (p.1, p.2) (free_due _ (directory_input_due c.args.options.now (option_copied c.args.list) tree c.args.folder.now) c.in_err-used.ensures.free)
