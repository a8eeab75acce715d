-- Of which table it is doesn't matter.
use Rattle.std.proofs.Common.{sym, ap, ◌∙◌}
use Rattle.std.specs.Option.{option_map}
use Rattle.std.proofs.lemmas.Result.{IfOk-weaker}
use Rattle.cat_model.specs.declared.key.Key.{Key}
use Rattle.cat_model.specs.CopyEffect.{Unique, unique_in}
use Rattle.plain_loads.proofs.uniques.unique_columns.Goals as goal

pub returns-in-Con : goal.returns-in-Con
returns-in-Con c =
    IfOk-weaker c.constraint_columns.result _ _
    (λ names e. e c.in-Con.field-0 c.in-Con.field-1 ∙ ap (λ (k : Key). option_map (λ (u : Unique). u.1) (unique_in (k, c.args.value.now))) (sym c.in-Con.is))
    c.constraint_columns.ensures

pub returns-in-Index : goal.returns-in-Index
returns-in-Index c =
    IfOk-weaker c.index_columns.result _ _
    (λ names e. e c.in-Index.field-0 c.in-Index.field-1 ∙ ap (λ (k : Key). option_map (λ (u : Unique). u.1) (unique_in (k, c.args.value.now))) (sym c.in-Index.is))
    c.index_columns.ensures
