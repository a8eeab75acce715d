use Rattle.line_fields.proofs.Walks.{found_field}
use Rattle.field_marks.proofs.ahead.cut.Goals as goal

pub returns-clause-field : goal.returns-clause-field
returns-clause-field c = λ clear. found_field c.args.text.now clear c.args.at c.requires.within c.requires.first c.split_at.result.0.now c.split_at-2.result.1.now c.split_at.ensures.front c.split_at-2.ensures.back c.requires.here
