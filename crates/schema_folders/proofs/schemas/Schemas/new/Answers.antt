use Rattle.std.proofs.Common.{rules}
use Rattle.std.specs.List.{IsDistinct}
use Rattle.schema_folders.proofs.schemas.Schemas.new.Goals as goal

pub invariant_of-result : goal.invariant_of-result
unfolding IsDistinct
invariant_of-result c = record { names_of = search rules; oids_of = search rules; distinct_names = rw c.new.ensures.items tt; distinct_oids = rw c.new.ensures.items tt }
