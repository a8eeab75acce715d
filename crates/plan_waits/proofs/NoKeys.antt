-- The opening of the examples has no foreign keys, so that their plan computes.
use Rattle.std.proofs.Common.{◌≡◌, ℕ, Bool, List, [], ◌∷◌, ap}
use Rattle.std.specs.Prelude.{codes}
use Rattle.std.specs.List.{filter_map}
use Rattle.std.specs.FinMap.{entries, entries-from_sorted}
use Rattle.cat_model.specs.declared.key.Key.{Key}
use Rattle.cat_model.specs.declared.key.Key.TheVariants as key
use Rattle.cat_model.specs.declared.object.QName.{QName}
use Rattle.cat_model.specs.declared.value.Value.{Value}
use Rattle.cat_model.specs.declared.value.Value.TheVariants as value
use Rattle.cat_model.specs.Keys.{key_cmp}
use Rattle.restore_plan.specs.declared.entry.Entry.{Entry}
use Rattle.restore_plan.specs.declared.planned.Planned.{Planned}
use Rattle.restore_plan.specs.Examples.{with_public}
use Rattle.restore_plan.specs.Order.{foreign_key_in, foreign_keys, plan, plan_behind}

abbrev items : List (Key × Value)
items = (key.Schema (codes "public"), value.Schema) ∷ []

none : foreign_keys with_public ≡ []
none = ap (filter_map foreign_key_in) (entries-from_sorted key_cmp items tt)

pub plan-is : (es : List Entry) → plan with_public es ≡ plan_behind [] [] es
plan-is es = ap (λ (pairs : List (QName × QName)). plan_behind pairs [] es) none
