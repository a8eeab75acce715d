use Rattle.std.specs.Option.{option_copied}
use Rattle.std.proofs.lemmas.Result.{err_from_is_err_and}
use Rattle.restore_input.specs.Inputs.{input_due}
use Rattle.restore_input.proofs.Dues.{free_due}
use Rattle.restore_input.proofs.whole.read_restore.Goals as goal

pub returns-in_err-is_directory-clause-due : goal.returns-in_err-is_directory-clause-due
returns-in_err-is_directory-clause-due g c = λ tree told.
    let p = err_from_is_err_and c.from_residual.result c.from_residual.ensures.1 in
    rw (p.1, p.2) (free_due _ (input_due c.args.options.now (option_copied c.args.list) c.args.format tree c.args.path.now) c.in_err-is_directory.ensures.free)
