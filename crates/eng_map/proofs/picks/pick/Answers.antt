use Rattle.std.proofs.Common.{sym, ap, ◌∙◌, Some, None, option_map, ◌≡◌}
use Rattle.std.specs.FinMap.{get, from_entries}
use Rattle.cat_model.specs.declared.class.Class.{Class}
use Rattle.cat_model.specs.declared.key.Key.{Key}
use Rattle.cat_model.specs.KeyLaws.{key_cmp_total, key_cmp-IsAntisymmetric}
use Rattle.cat_model.specs.Keys.{key_cmp}
use Rattle.cat_model.specs.Trees.{of_class}
use Rattle.cat_model.specs.Values.{Named}
use Rattle.cat_model.proofs.MapsSeen.{got_seen}
use Rattle.eng_map.specs.Picks.{pick}
use Rattle.eng_map.proofs.Picking.{key_found, pick-there, pick-other, pick-none, entry_told, none_told}
use Rattle.eng_map.proofs.picks.pick.Goals as goal

pub returns-then-branch : goal.returns-then-branch
returns-then-branch c =
    let named : Named = from_entries c.args.values.now.entries in
    let k = c.args.key.now in
    let same = key_found k c.in-Some.key.now c.args.values.now.entries c.in-Some.ensures.key in
    let value : get named k ≡ Some c.in-Some.value.now = got_seen key_cmp_total key_cmp-IsAntisymmetric c.args.values.now.entries k ∙ sym c.in-Some.ensures.value in
    let told = sym (ap (λ (j : Key). of_class c.args.class.now j c.in-Some.value.now) same) ∙ sym c.in_ok-is_of_class-in-Some.ensures ∙ c.if-branch.true in
    entry_told c.in-Some.key.now k c.in-Some.value.now (pick named c.args.class.now k) same (pick-there named c.args.class.now k c.in-Some.value.now value told)

pub returns-else-branch : goal.returns-else-branch
returns-else-branch c =
    let named : Named = from_entries c.args.values.now.entries in
    let k = c.args.key.now in
    let same = key_found k c.in-Some.key.now c.args.values.now.entries c.in-Some.ensures.key in
    let value : get named k ≡ Some c.in-Some.value.now = got_seen key_cmp_total key_cmp-IsAntisymmetric c.args.values.now.entries k ∙ sym c.in-Some.ensures.value in
    let told = sym (ap (λ (j : Key). of_class c.args.class.now j c.in-Some.value.now) same) ∙ sym c.in_ok-is_of_class-in-Some.ensures ∙ c.if-branch.false in
    none_told k (pick named c.args.class.now k) (pick-other named c.args.class.now k c.in-Some.value.now value told)

pub returns-in-None : goal.returns-in-None
returns-in-None c =
    let named : Named = from_entries c.args.values.now.entries in
    let k = c.args.key.now in
    none_told k (pick named c.args.class.now k) (pick-none named c.args.class.now k (got_seen key_cmp_total key_cmp-IsAntisymmetric c.args.values.now.entries k ∙ sym c.in-None.ensures.value))
