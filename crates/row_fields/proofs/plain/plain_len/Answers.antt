use Rattle.row_fields.proofs.Pieces.{plain_line, plain_cut}
use Rattle.row_fields.proofs.plain.plain_len.Goals as goal

pub returns-then-rest-at-eq9 : goal.returns-then-rest-at-eq9
returns-then-rest-at-eq9 c = plain_cut c.args.rest.now c.in-Some.at c.in-Some.ensures.0.high c.in-Some.ensures.0.before c.if-rest-at-eq9.true

pub returns-in-None : goal.returns-in-None
returns-in-None c = plain_line c.args.rest.now c.in-None.ensures
