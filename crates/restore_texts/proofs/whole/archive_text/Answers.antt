use Rattle.std.specs.Option.{option_copied}
use Rattle.std.proofs.lemmas.Result.{err_from_is_err_and}
use Rattle.restore_texts.specs.Texts.{archive_due}
use Rattle.restore_texts.proofs.Dues.{free_due}
use Rattle.restore_texts.proofs.whole.archive_text.Goals as goal

pub returns-in_err-is_directory-clause-due : goal.returns-in_err-is_directory-clause-due
returns-in_err-is_directory-clause-due g c = λ tree told.
    let p = err_from_is_err_and c.from_residual.result c.from_residual.ensures.1 in
    rw (p.1, p.2) (free_due _ (archive_due c.args.wish c.args.options.now (option_copied c.args.list) c.args.format tree c.args.path.now) c.in_err-is_directory.ensures.free)
