use Rattle.std.proofs.Common.{◌≡◌, true, map, List, [], Some, None, Ok, sym, ap, subst, ◌∙◌, IfOk}
use Rattle.std.proofs.lemmas.Result.{IfOk-weaker}
use Rattle.std.specs.BTreeMap as tree
use Rattle.std.specs.FinMap.{get, entries, from_entries}
use Rattle.std.specs.Option.{option_copied}
use Rattle.std.specs.Map.Iter.{deref_pair}
use Rattle.cat_model.specs.declared.key.Key.{Key}
use Rattle.cat_model.specs.declared.value.Value.{Value}
use Rattle.cat_model.specs.Keys.{key_cmp}
use Rattle.cat_model.specs.Trees.{class_of, there_and_of}
use Rattle.cat_model.specs.Values.{Named}
use Rattle.eng_map.specs.Groups.{class_group}
use Rattle.eng_map.proofs.Picking.{carried}
use Rattle.eng_map.proofs.Listing.{class_listed, some_listed, none_listed}
use Rattle.eng_map.proofs.Scans.{scans_are_exact, none_of_class}
use Rattle.eng_map.proofs.named_map.NamedMap.scan.Goals as goal
use Rattle.eng_map.proofs.named_map.NamedMap.scan.Goals.{in-Some, in-None}

pub returns : goal.returns
returns c =
    let named : Named = from_entries c.self.inside.values.entries in
    let groups = c.self.inside.groups in
    let class = c.args.class.now in
    let seen = ap (λ (m : Named). entries (class_of m class)) c.self.view_is in
    let at = sym (ap (tree.get key_cmp groups) c.in_ok-group.ensures) ∙ sym c.get.ensures.value in
    elim c.match-get.branch [
      | in-Some w ↦
          let keys = w.in-Some.keys.now in
          let there = at ∙ ap option_copied w.in-Some.is in
          let exact = scans_are_exact named class keys.keys (λ k h. some_listed groups (class_group class) k keys there (class_listed named groups class c.self.invariant k h)) w.picked-found.ensures.ordered in
          carried _ _ _ w.found-is (IfOk-weaker w.picked-found.result _ _ (λ found e. e ∙ exact ∙ seen) w.picked-found.ensures.found)
      | in-None w ↦
          let none = at ∙ ap option_copied w.in-None.is in
          let exact = none_of_class named class (λ k h. none_listed groups (class_group class) k none (class_listed named groups class c.self.invariant k h)) in
          carried _ (Ok w.new.result) _ w.found-is (ap (map (deref_pair {K = Key} {X = Value})) w.new.ensures.items ∙ exact ∙ seen)
    ]
