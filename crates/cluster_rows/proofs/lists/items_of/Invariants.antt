-- The items so far, with those of the entries that are left, are all.
use Rattle.std.proofs.Common.{◌≡◌, ◌++◌, map}
use Rattle.named_tables.specs.Rights.{acl_item, acl_items}
use Rattle.cluster_rows.proofs.lists.items_of.Given as goal

abbrev pub invariant-loop-holder : goal.invariant-loop-holder
invariant-loop-holder l = l.items.items ++ map (acl_item l.owner) l.holder-iterator ≡ acl_items l.owner l.grants
