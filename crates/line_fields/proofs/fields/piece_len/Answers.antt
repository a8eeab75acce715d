use Rattle.line_fields.proofs.RawPieces.{raw_line, raw_cut}
use Rattle.line_fields.proofs.fields.piece_len.Goals as goal

pub returns-then-rest-at-eq9 : goal.returns-then-rest-at-eq9
returns-then-rest-at-eq9 c = raw_cut c.args.rest.now c.in-Some.at c.in-Some.ensures.0.high c.in-Some.ensures.0.before c.if-rest-at-eq9.true

pub returns-in-None : goal.returns-in-None
returns-in-None c = raw_line c.args.rest.now c.in-None.ensures
