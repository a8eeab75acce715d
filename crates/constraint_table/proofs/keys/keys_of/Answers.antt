use Rattle.std.proofs.Common.{◌++◌, filter_map, subst}
use Rattle.constraint_table.specs.KeySets.{AreKeysOn}
use Rattle.constraint_table.specs.Keys.{key_of_constraint, key_of_index}
use Rattle.constraint_table.proofs.keys.keys_of.Goals as goal

pub returns : goal.returns
returns c =
    let cat = c.args.cat.now in
    let keys = c.add_indexes.new.keys in
    let constraints = c.as_slice.result.now in
    subst (λ rows. AreKeysOn keys (filter_map key_of_constraint rows ++ filter_map key_of_index cat.pg_index)) c.as_slice.ensures
    (subst (λ rows. AreKeysOn keys (filter_map key_of_constraint constraints ++ filter_map key_of_index rows)) c.as_slice-2.ensures (c.in_ok-add_indexes.ensures (filter_map key_of_constraint constraints) c.in_ok-keys.ensures))
