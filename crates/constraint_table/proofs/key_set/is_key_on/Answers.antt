use Rattle.std.proofs.Common.{◌∙◌}
use Rattle.constraint_table.proofs.key_set.is_key_on.Goals as goal

pub returns : goal.returns
returns c = λ ks h. c.contains.ensures ∙ h c.args.table c.args.names.now c.in_ok-columns.columns c.in_ok-columns.ensures
