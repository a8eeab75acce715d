use Rattle.std.proofs.Common.{ltb, rules}
use Rattle.std.proofs.lemmas.List.Sorted.{IsPartitionedBy-ltb, IsPartitionPoint-from_clause}
use Rattle.graph_walks.specs.Arcs.{Arc}
use Rattle.graph_walks.proofs.arcs.start_of.Goals as goal

pub returns : goal.returns
returns c = record {
  within = c.partition_point.ensures.bound;
  splits = λ rise. IsPartitionPoint-from_clause (λ (a : Arc). ltb a.0 c.args.place) _ _ c.partition_point.ensures.partitioned (IsPartitionedBy-ltb (λ (a : Arc). a.0) _ c.args.place rise) (λ a r q k. search rules);
}
