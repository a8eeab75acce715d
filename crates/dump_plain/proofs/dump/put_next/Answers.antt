use Rattle.std.proofs.Common.{refl}
use Rattle.std.proofs.lemmas.Result.{err_from_is_err_and}
use Rattle.dump_ports.specs.Tree.{bytes_at}
use Rattle.dump_files.specs.Outlets.{outside}
use Rattle.dump_plain.proofs.GoingLemmas.{apart_first, next_ok, next_err}
use Rattle.dump_plain.proofs.dump.put_next.Goals as goal

pub returns-in_err-rows-clause-err : goal.returns-in_err-rows-clause-err
returns-in_err-rows-clause-err g c = λ tree done before more s is apart.
    let p = err_from_is_err_and c.from_residual.result c.from_residual.ensures.1 in
    let split = c.in-Some.ensures.cases.0 in
    let text = bytes_at tree c.in-Some.file.now.name in
    let found = c.in_err-rows.ensures.err text done before s (record { told = tree; is = is; bytes = refl }) (apart_first c.args.target.now tree c.args.needed.now c.in-Some.file.now c.in-Some.others.now split apart) in
    rw (p.1, p.2) (next_err c.args.target.now tree c.args.needed.now c.in-Some.file.now c.in-Some.others.now split more done before (outside (g.F.Files.tree c.put_rows.new.files) (g.O.Sink.written c.put_rows.new.out)) c.in_err-rows.field-0.0 found)

pub returns-clause-ok : goal.returns-clause-ok
returns-clause-ok g c = λ tree done before more s is apart.
    let split = c.in-Some.ensures.cases.0 in
    let text = bytes_at tree c.in-Some.file.now.name in
    let found = c.in_ok-rows.ensures.ok text done before s (record { told = tree; is = is; bytes = refl }) (apart_first c.args.target.now tree c.args.needed.now c.in-Some.file.now c.in-Some.others.now split apart) in
    next_ok c.args.target.now tree c.args.needed.now c.in-Some.file.now c.in-Some.others.now split more done before (outside (g.F.Files.tree c.put_rows.new.files) (g.O.Sink.written c.put_rows.new.out)) c.in_ok-rows.rows c.put_rows.new.waiting.items found
