use Rattle.std.proofs.Common.{rules, take}
use Rattle.std.proofs.lemmas.Result.{err_from_is_err_and}
use Rattle.dump_ports.specs.Tree.{bytes_at}
use Rattle.dump_files.proofs.NextLemmas.{front_of, ended_same, next_same, next_due}
use Rattle.dump_files.proofs.reader.RowReader.next.Goals as goal

pub returns-then-n-eq0-clause-same : goal.returns-then-n-eq0-clause-same
returns-then-n-eq0-clause-same g c = λ tree is.
    let fills = rw is at c.in_ok-n.ensures.told in
    ended_same c.args.file.now.columns c.args.file.now.table c.args.self.now c.self.inside.rows c.self.inside.at c.self.inside.held.items c.self.inside.over c.self.view_is c.if-self.false
    (bytes_at tree c.args.file.now.name) c.read_piece.new.buffer c.in_ok-n.n fills (search rules) c.if-n-eq0.true
    c.deref.result.now c.args.out.now.items c.finish.new.out.items c.clear.new.self.items c.in_ok-rows.rows c.finish.result c.deref.ensures.value c.in_ok-rows.ensures c.finish.ensures.ok

pub returns-in_err-rows-2-clause-due : goal.returns-in_err-rows-2-clause-due
returns-in_err-rows-2-clause-due g c = λ tree is.
    let fills = rw is at c.in_ok-n.ensures.told in
    let p = err_from_is_err_and c.from_residual-in_err-rows-2.result c.from_residual-in_err-rows-2.ensures.1 in
    rw (p.1, p.2) (next_due c.args.file.now.columns c.args.file.now.table c.args.self.now c.self.inside.rows c.self.inside.at c.self.inside.held.items c.self.inside.over c.self.view_is c.if-self.false
    (bytes_at tree c.args.file.now.name) c.read_piece.new.buffer c.in_ok-n.n fills (take c.in_ok-n.n c.deref-2.result.now) (front_of _ c.in_ok-n.n c.read_piece.new.buffer _ c.deref-2.result.now (search rules) c.deref-2.ensures.value)
    c.feed.result c.in_err-rows-2.field-0.0 c.in_err-rows-2.ensures c.feed.ensures.fault)

pub returns-clause-same : goal.returns-clause-same
returns-clause-same g c = λ tree is.
    let fills = rw is at c.in_ok-n.ensures.told in
    next_same c.args.file.now.columns c.args.file.now.table c.args.self.now c.self.inside.rows c.self.inside.at c.self.inside.held.items c.self.inside.over c.self.view_is c.if-self.false
    (bytes_at tree c.args.file.now.name) c.read_piece.new.buffer c.in_ok-n.n fills (take c.in_ok-n.n c.deref-2.result.now) (front_of _ c.in_ok-n.n c.read_piece.new.buffer _ c.deref-2.result.now (search rules) c.deref-2.ensures.value)
    c.args.out.now.items c.feed.new.out.items c.feed.new.held.items c.in_ok-rows-2.rows c.in_ok-rows-2.over c.feed.result c.in_ok-rows-2.ensures c.feed.ensures.ok
