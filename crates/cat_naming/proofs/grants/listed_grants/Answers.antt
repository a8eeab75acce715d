use Rattle.std.proofs.Common.{List, sym, ap, ◌∙◌}
use Rattle.acl_text.specs.declared.list.AclItem.{AclItem}
use Rattle.cat_model.specs.Values.{Grants}
use Rattle.cat_naming.proofs.Rights.{given_onto, given-empty, given-push}
use Rattle.cat_naming.proofs.grants.listed_grants.Goals as goal

pub items-init : goal.items-init
items-init c =
    ap (λ (g : Grants). given_onto c.args.owner.now c.args.items.now g) c.new-grants.ensures
    ∙ given-empty c.args.owner.now c.args.items.now

pub items-preserved : goal.items-preserved
items-preserved c =
    let owner = c.args.owner.now in
    let before = c.in-Some.before.now in
    let grants = c.items.grants in
    ap (given_onto owner before) c.in_ok-put_item.ensures
    ∙ sym (given-push owner before c.in-Some.item.now grants)
    ∙ ap (λ (is : List AclItem). given_onto owner is grants) (sym c.in-Some.ensures.cases.0)
    ∙ c.items.invariant
