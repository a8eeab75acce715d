use Rattle.std.proofs.Common.{ltb, rules}
use Rattle.std.proofs.lemmas.List.Sorted.{IsPartitionedBy-ltb, IsPartitionPoint-from_clause}
use Rattle.oid_groups.specs.Groups.{Key}
use Rattle.oid_groups.proofs.groups.oid_start.Goals as goal

pub returns-clause-start : goal.returns-clause-start
returns-clause-start c =
    λ rise. IsPartitionPoint-from_clause (λ (k : Key). ltb k.0 c.args.oid) _ _ c.partition_point.ensures.partitioned (IsPartitionedBy-ltb (λ (k : Key). k.0) _ c.args.oid rise) (λ a r q k. search rules)
