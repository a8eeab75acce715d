-- Those of both lists, one behind the other.
use Rattle.std.proofs.Common.{List, ◌++◌, map, sym, ap, ◌∙◌}
use Rattle.std.proofs.lemmas.List.Elements.{filter_map-append}
use Rattle.std.specs.List.{filter_map}
use Rattle.std.specs.Map.Iter.{deref_pair}
use Rattle.cat_model.specs.declared.key.Key.{Key}
use Rattle.cat_model.specs.declared.value.Value.{Value}
use Rattle.cat_model.specs.CopyEffect.{Unique, unique_in}
use Rattle.copy_effects.proofs.uniques.uniques_among.Goals as goal

pub returns : goal.returns
returns c =
    let constraints = map (deref_pair {K = Key} {X = Value}) c.args.constraints.now in
    let indexes = map (deref_pair {K = Key} {X = Value}) c.args.indexes.now in
    c.in_ok-push_uniques-2.ensures
    ∙ ap (λ (us : List Unique). us ++ filter_map unique_in indexes) (c.in_ok-push_uniques.ensures ∙ ap (λ (us : List Unique). us ++ filter_map unique_in constraints) c.new-uniques.ensures.items)
    ∙ sym (filter_map-append unique_in constraints indexes)
