use Rattle.std.proofs.Common.{◌≡◌, ◌++◌, ◌∷◌, take}
use Rattle.std.specs.List.{flat_map, AllByRecursion}
use Rattle.acl_text.specs.Acls.{spell_element, spell_item, comma, IsAclItem}
use Rattle.acl_text.proofs.writing.write_more.Given as goal

abbrev pub invariant-loop-item : goal.invariant-loop-item
invariant-loop-item l = (l.out.items ≡ l.initial.out.items ++ flat_map (λ item. comma ∷ spell_element (spell_item item)) (take l.item-index l.items)) × AllByRecursion IsAclItem (take l.item-index l.items)
