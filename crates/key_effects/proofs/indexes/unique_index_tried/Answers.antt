-- The columns that were read are those of the index.
use Rattle.std.proofs.Common.{List, Option, Ok, true, subst, ap, ◌∙◌}
use Rattle.cat_model.specs.IndexColumns.{plain_columns}
use Rattle.cat_model.specs.Trees.{outcome, seen}
use Rattle.cat_model.specs.Values.{Bytes}
use Rattle.eng_steps.specs.Outcomes.{Steps}
use Rattle.key_effects.specs.Keys.{unique_index_on}
use Rattle.key_effects.proofs.indexes.unique_index_tried.Goals as goal

pub returns : goal.returns
returns c =
    let new = c.args.new in
    subst (λ (on : Option (List Bytes)). Steps c.unique_index_on.result (outcome (unique_index_on c.args.q.now new.name.now (record { method = new.method.now; unique = true; text = new.rest.now }) c.args.columns.now on) (seen c.args.named.now)) (λ changes. Ok changes.items))
    (c.in_ok-on.ensures ∙ ap plain_columns c.as_bytes.ensures.value) c.unique_index_on.ensures
