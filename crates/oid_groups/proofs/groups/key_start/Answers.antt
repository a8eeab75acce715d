use Rattle.std.proofs.Common.{rules}
use Rattle.std.specs.Ordering.{is_lt}
use Rattle.std.proofs.lemmas.List.Sorted.{IsPartitionPoint-from_clause}
use Rattle.oid_groups.specs.Groups.{Key}
use Rattle.oid_groups.specs.Sorted.{key_cmp}
use Rattle.oid_groups.proofs.Placing.{lower_keys_first}
use Rattle.oid_groups.proofs.groups.key_start.Goals as goal

pub returns : goal.returns
returns c =
    λ rising. IsPartitionPoint-from_clause (λ (k : Key). is_lt (key_cmp k c.args.wanted)) _ _ c.partition_point.ensures.partitioned (lower_keys_first _ c.args.wanted rising) (λ a r q k. search rules)
