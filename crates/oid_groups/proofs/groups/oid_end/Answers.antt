use Rattle.std.proofs.Common.{leb, rules}
use Rattle.std.proofs.lemmas.List.Sorted.{IsPartitionedBy-leb, IsPartitionPoint-from_clause}
use Rattle.oid_groups.specs.Groups.{Key}
use Rattle.oid_groups.proofs.groups.oid_end.Goals as goal

pub returns-clause-end : goal.returns-clause-end
returns-clause-end c =
    λ rise. IsPartitionPoint-from_clause (λ (k : Key). leb k.0 c.args.oid) _ _ c.partition_point.ensures.partitioned (IsPartitionedBy-leb (λ (k : Key). k.0) _ c.args.oid rise) (λ a r q k. search rules)
