use Rattle.std.proofs.Common.{sym, subst, false}
use Rattle.line_fields.specs.Clear.{IsFirstField}
use Rattle.line_fields.proofs.Walks.{whole_field}
use Rattle.field_marks.proofs.ahead.split_short.Goals as goal

pub returns-in-None-clause-field : goal.returns-in-None-clause-field
returns-in-None-clause-field c = λ clear. subst (IsFirstField c.args.text.now c.args.text.now false) (sym c.new.ensures) (whole_field c.args.text.now clear c.in-None.ensures)
