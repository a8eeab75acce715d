use Rattle.std.proofs.Common.{[], ◌++◌, Some, inr}
use Rattle.std.proofs.lemmas.Result.{err_from_is_err_and}
use Rattle.dump_files.specs.Spelled.{spelled}
use Rattle.dump_files.specs.Outlets.{outside}
use Rattle.dump_files.proofs.RowsLemmas.{late_stop}
use Rattle.dump_plain.proofs.GoingLemmas.{stands_none}
use Rattle.dump_directory.proofs.SavingLemmas.{stands_all}
use Rattle.dump_directory.proofs.whole.put_file.Goals as goal

pub returns-in_err-count-clause-err : goal.returns-in_err-count-clause-err
returns-in_err-count-clause-err g c = λ text h a.
    let p = err_from_is_err_and c.from_residual-in_err-count.result c.from_residual-in_err-count.ensures.1 in
    let before = outside (g.F.Files.tree c.args.files.now) (g.O.Sink.written c.args.out.now) in
    let now = outside (g.F.Files.tree c.begin.new.files) (g.O.Sink.written c.begin.new.out) in
    let found = c.in_err-count.ensures.err text [] before (stands_none (Some c.args.name) before now c.new-waiting.result.items c.in_ok-begin.ensures.ok c.new-waiting.ensures.items) h a in
    rw (p.1, p.2) (found.0, inr found.1)

pub returns-in_err-flush-clause-err : goal.returns-in_err-flush-clause-err
returns-in_err-flush-clause-err g c = λ text h a.
    let p = err_from_is_err_and c.from_residual-in_err-flush.result c.from_residual-in_err-flush.ensures.1 in
    let before = outside (g.F.Files.tree c.args.files.now) (g.O.Sink.written c.args.out.now) in
    let now = outside (g.F.Files.tree c.begin.new.files) (g.O.Sink.written c.begin.new.out) in
    let due = spelled c.args.file.now.columns text in
    let found = c.in_ok-count.ensures.ok text [] before (stands_none (Some c.args.name) before now c.new-waiting.result.items c.in_ok-begin.ensures.ok c.new-waiting.ensures.items) h a in
    rw (p.1, p.2) (late_stop c.args.file.now.table text due c.in_err-flush.field-0.0 c.in_err-flush.ensures.late, inr (c.in_err-flush.ensures.err ([] ++ due.text) before found.2))

pub returns-clause-ok : goal.returns-clause-ok
returns-clause-ok g c = λ text h a.
    let before = outside (g.F.Files.tree c.args.files.now) (g.O.Sink.written c.args.out.now) in
    let now = outside (g.F.Files.tree c.begin.new.files) (g.O.Sink.written c.begin.new.out) in
    let now3 = outside (g.F.Files.tree c.flush.new.files) (g.O.Sink.written c.flush.new.out) in
    let due = spelled c.args.file.now.columns text in
    let found = c.in_ok-count.ensures.ok text [] before (stands_none (Some c.args.name) before now c.new-waiting.result.items c.in_ok-begin.ensures.ok c.new-waiting.ensures.items) h a in
    (found.0, found.1, stands_all (Some c.args.name) ([] ++ due.text) before now3 c.flush.new.waiting.items (c.in_ok-flush.ensures.ok ([] ++ due.text) before found.2) c.in_ok-flush.ensures.none)
