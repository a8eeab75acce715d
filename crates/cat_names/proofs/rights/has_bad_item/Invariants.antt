-- No item so far is bad, and the set is that of their grantees.
use Rattle.std.proofs.Common.{◌≡◌, [], take, drop, map}
use Rattle.cat_names.specs.Indexed.{AreKeys}
use Rattle.cat_names.specs.Rights.{has_bad_item, grantee_cmp}
use Rattle.cat_names.proofs.rights.has_bad_item.Given as goal

abbrev pub invariant-loop-item : goal.invariant-loop-item
invariant-loop-item l = (has_bad_item l.on l.roles [] (map (λ i. i.now) l.items) ≡ has_bad_item l.on l.roles (map (λ i. i.now) (take l.item-index l.items)) (map (λ i. i.now) (drop l.item-index l.items)))
    × AreKeys grantee_cmp l.grantees (map (λ i. i.grantee) (map (λ i. i.now) (take l.item-index l.items)))
