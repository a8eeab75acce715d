use Rattle.std.proofs.Common.{List, sym, ap, subst, ◌∙◌}
use Rattle.std.specs.FinMap.{get, from_entries}
use Rattle.std.specs.List.{AllByRecursion}
use Rattle.cat_model.specs.declared.key.Key.{Key}
use Rattle.cat_model.specs.declared.value.Value.{Value}
use Rattle.cat_model.specs.Keys.{key_cmp}
use Rattle.cat_model.specs.Trees.{Change, changed}
use Rattle.cat_model.specs.Values.{Named}
use Rattle.eng_map.specs.Groups.{HasPlace, AreGrouped}
use Rattle.eng_map.proofs.Listing.{grouped_after, still_grouped}
use Rattle.eng_map.proofs.named_map.NamedMap.commit.Goals as goal

pub invariant_of-self-2 : goal.invariant_of-self-2
invariant_of-self-2 c =
    let changes = c.args.changes.items in
    let groups = c.add_keys.new.groups in
    let named : Named = from_entries c.self.inside.values.entries in
    let placed : AllByRecursion (λ (d : Change). HasPlace groups d.0) changes = subst (AllByRecursion (λ (d : Change). HasPlace groups d.0)) c.deref.ensures.value c.in_ok-add_keys.ensures.placed in
    let after = c.put_all.ensures ∙ ap (λ (es : List (Key × Value)). changed changes (from_entries {R = key_cmp} es)) c.in_ok-reserve.ensures.entries in
    subst (λ (m : Named). AreGrouped (get m) groups) (sym after)
    (grouped_after groups changes named placed (still_grouped named c.self.inside.groups groups c.in_ok-add_keys.ensures.kept c.self.invariant))
