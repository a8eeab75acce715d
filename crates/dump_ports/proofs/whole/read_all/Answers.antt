use Rattle.std.proofs.Common.{rules, ◌+◌, ◌∙◌, vec_len}
use Rattle.std.proofs.lemmas.Result.{err_from_is_err_and}
use Rattle.dump_ports.proofs.Reading.{read_whole_text, read_to_end, drop_twice}
use Rattle.dump_ports.proofs.whole.read_all.Goals as goal

pub returns-then-n-eq0-clause-told : goal.returns-then-n-eq0-clause-told
returns-then-n-eq0-clause-told g c =
    read_whole_text (g.S.Source.left c.args.source.now) c.pieces.text.items c.read.new.buffer (vec_len c.pieces.text) c.in_ok-n.n c.args.limit c.pieces.invariant.told
    (rw c.pieces.invariant.given at c.in_ok-n.ensures.told) (search rules) c.if-n-eq0.true (search rules)

pub returns-then-n-eq0-clause-ok : goal.returns-then-n-eq0-clause-ok
returns-then-n-eq0-clause-ok g c =
    c.in_ok-n.ensures.ok ∙ rw c.pieces.invariant.given (read_to_end (g.S.Source.left c.args.source.now) c.read.new.buffer (vec_len c.pieces.text) c.in_ok-n.n
    (rw c.pieces.invariant.given at c.in_ok-n.ensures.told) (search rules) c.if-n-eq0.true)

pub returns-in_err-add_within-clause-err : goal.returns-in_err-add_within-clause-err
returns-in_err-add_within-clause-err g c =
    let p = err_from_is_err_and c.from_residual-in_err-add_within.result c.from_residual-in_err-add_within.ensures.1 in
    rw p.1 (vec_len c.pieces.text + c.in_ok-n.n, c.in_ok-n.ensures.ok ∙ rw c.pieces.invariant.given (drop_twice (g.S.Source.left c.args.source.now) (vec_len c.pieces.text) c.in_ok-n.n))
