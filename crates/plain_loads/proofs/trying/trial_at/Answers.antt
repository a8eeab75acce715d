use Rattle.std.proofs.Common.{List, Some, map, sym, ap, ◌∙◌}
use Rattle.std.specs.Map.Iter.{deref_pair}
use Rattle.std.proofs.lemmas.Result.{IfOk-weaker}
use Rattle.cat_model.specs.declared.key.Key.{Key}
use Rattle.cat_model.specs.declared.value.Column.{Column}
use Rattle.cat_model.specs.declared.value.Value.{Value}
use Rattle.cat_model.specs.declared.value.Value.TheVariants as value
use Rattle.plain_loads.proofs.PartsSeen.{if_some}
use Rattle.plain_loads.proofs.trying.trial_at.Goals as goal

pub returns : goal.returns
returns c =
    IfOk-weaker c.trial_of.result _ _ (λ found some. if_some found _ _ (λ trial tries there.
    tries (there ∙ ap (λ (columns : List Column). Some (value.Table columns)) (sym c.in_ok-table_columns.ensures)) (ap (map (deref_pair {K = Key} {X = Value})) c.deref.ensures.value ∙ c.in_ok-constraints.ensures) (ap (map (deref_pair {K = Key} {X = Value})) c.deref-2.ensures.value ∙ c.in_ok-indexes.ensures))
    some)
    c.trial_of.ensures
