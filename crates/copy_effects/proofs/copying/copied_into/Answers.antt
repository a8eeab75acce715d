-- The table that was made has these columns.
use Rattle.std.proofs.Common.{List, Ok, subst}
use Rattle.cat_model.specs.declared.value.Column.{Column}
use Rattle.cat_model.specs.Trees.{outcome, seen}
use Rattle.eng_steps.specs.Outcomes.{Steps}
use Rattle.copy_effects.specs.Keys.{copied_into}
use Rattle.copy_effects.proofs.copying.copied_into.Goals as goal

pub returns : goal.returns
returns c =
    subst (λ (columns : List Column). Steps c.copied_among.result (outcome (copied_into c.args.q.now c.args.names.now c.args.source columns) (seen c.args.named.now)) (λ changes. Ok changes.items))
    c.in_ok-table.ensures c.copied_among.ensures
