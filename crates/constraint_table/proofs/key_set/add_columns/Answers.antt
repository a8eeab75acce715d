use Rattle.constraint_table.proofs.SameSets.{one_more}
use Rattle.constraint_table.proofs.key_set.add_columns.Goals as goal

pub returns : goal.returns
returns c = λ ks h. one_more c.args.keys.now c.insert.new.self ks c.args.table c.in_ok-columns.columns c.args.names.now c.in_ok-columns.ensures c.in_ok-insert.ensures.updates.0 h
