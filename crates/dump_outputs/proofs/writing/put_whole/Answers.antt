use Rattle.std.proofs.Common.{[], inr, ◌∙◌}
use Rattle.std.proofs.lemmas.Result.{err_from_is_err_and, on_err_weaker, IfOk-weaker}
use Rattle.dump_files.specs.Outlets.{outside}
use Rattle.dump_outputs.proofs.PieceLemmas.{one_out, begun_out, begun_none, counts_step}
use Rattle.dump_outputs.proofs.writing.put_whole.Goals as goal

-- the place isn't begun, or holds nothing
pub returns-in_err-begin-clause-err : goal.returns-in_err-begin-clause-err
returns-in_err-begin-clause-err g c =
    let p = err_from_is_err_and c.from_residual.result c.from_residual.ensures.1 in
    rw (p.1) (begun_none c.args.target.now c.args.text.now _ _ c.in_err-begin.ensures.err)

pub returns-in_err-begin-clause-write_count : goal.returns-in_err-begin-clause-write_count
returns-in_err-begin-clause-write_count g c =
    let p = err_from_is_err_and c.from_residual.result c.from_residual.ensures.1 in
    rw (p.1, p.2) (counts_step c.args.target.now _ _ _ _ _ c.in_err-begin.ensures.write_count)

pub returns-clause-ok : goal.returns-clause-ok
returns-clause-ok g c =
    let before = outside (g.F.Files.tree c.args.files.now) (g.O.Sink.written c.args.out.now) in
    IfOk-weaker c.put.result _ _ (λ _ e. e ∙ one_out c.args.target.now c.args.text.now before) (c.put.ensures.ok [] before c.in_ok-begin.ensures.ok)

pub returns-clause-err : goal.returns-clause-err
returns-clause-err g c =
    let before = outside (g.F.Files.tree c.args.files.now) (g.O.Sink.written c.args.out.now) in
    on_err_weaker c.put.result (λ cut. begun_out c.args.target.now c.args.text.now [] before _ (inr cut)) (c.put.ensures.err [] before c.in_ok-begin.ensures.ok)
