-- The set has the names so far, behind which the others are as fresh as all are distinct.
use Rattle.std.proofs.Common.{◌≡◌, take, drop, Bor}
use Rattle.std.specs.BTreeSet.{contains}
use Rattle.cat_model.specs.Tables.{distinct}
use Rattle.cat_model.specs.Values.{Bytes, bytes_cmp}
use Rattle.distinct_names.proofs.Distincts.{has_name, fresh_behind}
use Rattle.distinct_names.proofs.distinct.are_distinct.Given as goal

abbrev pub invariant-loop-name : goal.invariant-loop-name
invariant-loop-name l = record {
  seen_are : (name : Bor Bytes) → contains (λ (a b : Bor Bytes). bytes_cmp a.now b.now) l.seen name ≡ has_name (take l.name-index l.names) name.now;
  left_is : distinct l.names ≡ fresh_behind (take l.name-index l.names) (drop l.name-index l.names);
}
