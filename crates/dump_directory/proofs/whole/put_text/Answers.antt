use Rattle.std.proofs.Common.{[], inr}
use Rattle.std.proofs.lemmas.Result.{err_from_is_err_and}
use Rattle.dump_files.specs.Outlets.{outside}
use Rattle.dump_directory.proofs.whole.put_text.Goals as goal

pub returns-in_err-put-clause-err : goal.returns-in_err-put-clause-err
returns-in_err-put-clause-err g c =
    let p = err_from_is_err_and c.from_residual-in_err-put.result c.from_residual-in_err-put.ensures.1 in
    rw p.1 (inr (c.in_err-put.ensures.err [] (outside (g.F.Files.tree c.args.files.now) (g.O.Sink.written c.args.out.now)) c.in_ok-begin.ensures.ok))

pub returns-clause-ok : goal.returns-clause-ok
returns-clause-ok g c = c.in_ok-put.ensures.ok [] (outside (g.F.Files.tree c.args.files.now) (g.O.Sink.written c.args.out.now)) c.in_ok-begin.ensures.ok
