use Rattle.plain_rows.proofs.Rising.{is_new, is_up_to}
use Rattle.plain_rows.proofs.keys.rise_to.Goals as goal

pub returns-clause-new : goal.returns-clause-new
returns-clause-new c = λ yes known are. is_new c.args.last.now c.args.key.now known (c.is_behind.ensures c.if-not-is_behind.false) are

pub returns-clause-risen : goal.returns-clause-risen
returns-clause-risen c = λ yes known are. is_up_to c.args.last.now c.args.key known (c.is_behind.ensures c.if-not-is_behind.false) are
