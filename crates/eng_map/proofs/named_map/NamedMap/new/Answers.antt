use Rattle.std.proofs.Common.{List, sym, ap, ◌∙◌}
use Rattle.std.proofs.lemmas.Option.{none-some}
use Rattle.std.specs.FinMap.{get, get-empty, from_entries}
use Rattle.cat_model.specs.declared.key.Key.{Key}
use Rattle.cat_model.specs.declared.value.Value.{Value}
use Rattle.cat_model.specs.Keys.{key_cmp}
use Rattle.eng_map.proofs.named_map.NamedMap.new.Goals as goal

pub invariant_of-result : goal.invariant_of-result
invariant_of-result c = λ k v e.
    absurd (none-some v (sym (get-empty key_cmp k) ∙ ap (λ (es : List (Key × Value)). get (from_entries {R = key_cmp} es) k) (sym c.new.ensures.empty) ∙ e))
