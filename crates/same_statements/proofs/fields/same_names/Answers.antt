use Rattle.same_statements.proofs.Lists.{same_lists}
use Rattle.same_statements.proofs.fields.same_names.Goals as goal

pub returns : goal.returns
returns c = same_lists c.args.a.now c.args.b.now c.eq.result c.eq.ensures
