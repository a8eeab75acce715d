use Rattle.std.proofs.Common.{refl}
use Rattle.std.proofs.lemmas.Result.{on_ok_weaker, on_err_weaker}
use Rattle.dump_files.proofs.CutLemmas.{more_printed, more_stored, cut_printed, cut_stored}
use Rattle.dump_files.proofs.outlet.put.Goals as goal

pub returns-in-None-clause-ok : goal.returns-in-None-clause-ok
returns-in-None-clause-ok g c = λ done before.
    rw c.in-None.is (λ is. on_ok_weaker c.put_out.result (more_printed done c.args.bytes.now before _ (g.F.Files.tree c.args.files.now) (g.O.Sink.written c.put_out.new.out) is refl) c.put_out.ensures.ok)

pub returns-in-None-clause-err : goal.returns-in-None-clause-err
returns-in-None-clause-err g c = λ done before.
    rw c.in-None.is (λ is. on_err_weaker c.put_out.result (cut_printed done c.args.bytes.now before _ (g.F.Files.tree c.args.files.now) (g.O.Sink.written c.put_out.new.out) is refl) c.put_out.ensures.err)

pub returns-in-Some-clause-ok : goal.returns-in-Some-clause-ok
returns-in-Some-clause-ok g c = λ done before.
    rw c.in-Some.is (λ is. on_ok_weaker c.put_in.result (λ t. more_stored done c.args.bytes.now before _ (g.F.Files.tree c.put_in.new.files) (g.O.Sink.written c.args.out.now) c.in-Some.name is t refl) c.put_in.ensures.ok)

pub returns-in-Some-clause-err : goal.returns-in-Some-clause-err
returns-in-Some-clause-err g c = λ done before.
    rw c.in-Some.is (λ is. on_err_weaker c.put_in.result (cut_stored c.in-Some.name done c.args.bytes.now before _ (g.F.Files.tree c.put_in.new.files) (g.O.Sink.written c.args.out.now) is refl) c.put_in.ensures.err)
