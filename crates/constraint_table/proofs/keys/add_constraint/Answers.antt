use Rattle.std.proofs.Common.{[], ◌++◌, subst}
use Rattle.std.specs.List.{cons_option}
use Rattle.constraint_table.specs.KeySets.{AreKeysOn}
use Rattle.constraint_table.specs.Keys.{on_table}
use Rattle.constraint_table.proofs.keys.add_constraint.Goals as goal

pub returns : goal.returns
returns c = λ ks h. subst (λ n. AreKeysOn c.add_key.new.keys (ks ++ cons_option (on_table c.args.row.now.conrelid n) [])) c.in_ok-names.ensures (c.in_ok-add_key.ensures ks h)
