use Rattle.std.proofs.Common.{List, sym, ap, Some, ◌∙◌}
use Rattle.std.specs.FinMap.{empty, insert}
use Rattle.cat_model.specs.declared.key.Key.{Key}
use Rattle.cat_model.specs.declared.value.Value.{Value}
use Rattle.cat_model.specs.Trees.{Change, changed}
use Rattle.cat_model.specs.Values.{Named}
use Rattle.eng_map.proofs.Backwards.{onto, onto-empty, onto-push, changed-push}
use Rattle.eng_map.proofs.entries.backwards.Goals as goal

pub entries-init : goal.entries-init
entries-init c =
    let none : Named = empty in
    ap (λ (cs : List Change). onto c.args.entries.items (changed cs none)) c.new-changes.ensures.items ∙ onto-empty c.args.entries.items

pub entries-preserved : goal.entries-preserved
entries-preserved c =
    let none : Named = empty in
    let key = c.in-Some.key in
    let value = c.in-Some.value in
    let before = c.entries.changes.items in
    let left = c.pop.new.self.items in
    ap (λ (cs : List Change). onto left (changed cs none)) c.in_ok-push.ensures.items
    ∙ ap (onto left) (changed-push before (key, Some value) none)
    ∙ sym (onto-push left key value (changed before none))
    ∙ ap (λ (es : List (Key × Value)). onto es (changed before none)) (sym c.in-Some.ensures.items)
    ∙ c.entries.invariant
