use Rattle.std.proofs.Common.{[], ◌++◌, ap, subst, ◌∙◌}
use Rattle.std.specs.List.{cons_option}
use Rattle.std.specs.Option.{option_and_then}
use Rattle.row_texts.specs.IndexTexts.{index_said}
use Rattle.constraint_table.specs.KeySets.{AreKeysOn}
use Rattle.constraint_table.specs.Keys.{unique_columns, on_table}
use Rattle.constraint_table.proofs.keys.add_index.Goals as goal

pub returns : goal.returns
returns c = λ ks h.
    let row = c.args.row.now in
    let said = c.in_ok-names.ensures ∙ ap (option_and_then unique_columns) (c.in_ok-said.ensures ∙ ap index_said c.as_bytes.ensures.value) in
    subst (λ n. AreKeysOn c.add_key.new.keys (ks ++ cons_option (on_table row.indrelid n) [])) said (c.in_ok-add_key.ensures ks h)
