-- Over the opening's entries as a list the restore computes.
use Rattle.std.proofs.Common.{◌≡◌, List, [], ◌∷◌, ap, ◌∙◌}
use Rattle.std.specs.Prelude.{codes}
use Rattle.std.specs.FinMap.{entries, entries-from_sorted}
use Rattle.cat_model.specs.declared.key.Key.TheVariants as key
use Rattle.cat_model.specs.Keys.{key_cmp}
use Rattle.cat_model.specs.declared.value.Value.TheVariants as value
use Rattle.restore_plan.specs.Examples.{with_public, postgres, two_schemas}
use Rattle.restore_plan.specs.Order.{plan}
use Rattle.restore_plan.proofs.ListRun.{Items, statuses_in, statuses-in}
use Rattle.restore_plan.proofs.examples.one_schema_twice.Goals as goal

abbrev items : Items
items = (key.Schema (codes "public"), value.Schema) ∷ []

pub returns : goal.returns
returns c =
    statuses-in postgres (plan with_public two_schemas) [] with_public
    ∙ ap (λ (es : Items). statuses_in postgres [] es (plan with_public two_schemas)) (entries-from_sorted key_cmp items tt)
