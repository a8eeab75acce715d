use Rattle.std.proofs.Common.{List, ap, ◌∙◌}
use Rattle.std.specs.FinMap.{from_entries}
use Rattle.std.specs.List.{IsDistinct}
use Rattle.std.specs.Map.{keys_of}
use Rattle.std.proofs.Common.{sym, subst}
use Rattle.cat_model.specs.declared.key.Key.{Key}
use Rattle.cat_model.specs.declared.value.Value.{Value}
use Rattle.cat_model.specs.Keys.{key_cmp, key_eq}
use Rattle.eng_map.proofs.named_map.NamedMap.iter.Goals as goal

pub returns-clause-seen : goal.returns-clause-seen
returns-clause-seen c = ap (λ (es : List (Key × Value)). from_entries {R = key_cmp} es) c.iter.ensures.rest ∙ c.self.view_is

pub returns-clause-distinct : goal.returns-clause-distinct
returns-clause-distinct c = subst (λ (es : List (Key × Value)). IsDistinct key_eq (keys_of es)) (sym c.iter.ensures.rest) c.iter.ensures.unique
