use Rattle.std.proofs.Common.{List, [], ◌∷◌, ◌++◌, sym, subst}
use Rattle.std.specs.List.{cons_option}
use Rattle.cat_model.specs.Values.{Bytes}
use Rattle.constraint_table.specs.KeySets.{AreKeysOn}
use Rattle.constraint_table.specs.Keys.{on_table}
use Rattle.constraint_table.proofs.keys.add_key.Goals as goal

pub returns-in_ok-add_columns : goal.returns-in_ok-add_columns
returns-in_ok-add_columns c = λ ks h.
    subst (λ n. AreKeysOn c.add_columns.new.keys (ks ++ cons_option (on_table c.args.table n) [])) (sym c.in-Some.is)
    (subst (λ (ns : List Bytes). AreKeysOn c.add_columns.new.keys (ks ++ (c.args.table, ns) ∷ [])) c.as_slice.ensures (c.in_ok-add_columns.ensures ks h))
