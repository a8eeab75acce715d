use Rattle.line_fields.proofs.Walks.{whole_field, found_field}
use Rattle.line_fields.proofs.walk.split_field.Goals as goal

pub returns-in-Some-clause-field : goal.returns-in-Some-clause-field
returns-in-Some-clause-field c = λ clear. found_field c.args.text.now clear c.in-Some.at c.in-Some.ensures.0.high c.in-Some.ensures.0.before c.split_at.result.0.now c.split_at-in-Some.result.1.now c.split_at.ensures.front c.split_at-in-Some.ensures.back c.in-Some.ensures.1

pub returns-in-None-clause-field : goal.returns-in-None-clause-field
returns-in-None-clause-field c = λ clear. whole_field c.args.text.now clear c.in-None.ensures
