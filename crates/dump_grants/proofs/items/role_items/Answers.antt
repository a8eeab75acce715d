use Rattle.std.proofs.Common.{◌≡◌, ap, ◌∙◌, rules}
use Rattle.std.specs.List.{filter}
use Rattle.std.specs.List.Sorted.{IsSortedBy, ties}
use Rattle.std.specs.Ordering.{is_lt}
use Rattle.std.proofs.lemmas.List.Sorted.{answers_always}
use Rattle.dep_sort.specs.FirstOrder.{in_order}
use Rattle.dump_grants.specs.declared.items.RoleItem.{RoleItem}
use Rattle.dump_grants.specs.Holders.{name_less}
use Rattle.dump_grants.proofs.Roles.{less, role_order, roles_are}
use Rattle.dump_grants.proofs.items.role_items.Goals as goal

pub returns : goal.returns
returns c =
    let compares = answers_always _ (λ a r. is_lt r ≡ less a.0.now a.1.0.now) _ (λ f a r f' called. search rules) in
    let rising : IsSortedBy less c.sort_by.new.self.items = c.in_ok-sort_by.ensures.sorted less role_order compares in
    let stable : (z : RoleItem) → filter (ties less z) c.sort_by.new.self.items ≡ filter (ties less z) c.in_ok-roles.roles.items = c.in_ok-sort_by.ensures.stable less role_order compares in
    roles_are c.in_ok-roles.roles.items c.sort_by.new.self.items rising stable ∙ ap (in_order name_less) c.in_ok-roles.ensures
