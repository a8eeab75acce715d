use Rattle.std.proofs.Common.{◌≡◌, [], rules}
use Rattle.dep_sort.proofs.Making.{indexed_none}
use Rattle.dep_sort.proofs.made.Made.new.Goals as goal

pub invariant_of-result : goal.invariant_of-result
invariant_of-result c =
    let items : c.new.result.items ≡ [] = search rules in
    rw items (indexed_none c.new-2.result (λ id. search rules))
