-- Those so far, with the checks that are left, are all.
use Rattle.std.proofs.Common.{◌≡◌, ◌++◌, map}
use Rattle.std.specs.FinMap.{entries}
use Rattle.object_ids.specs.Slots.{check}
use Rattle.entry_ids.proofs.slots.push_checks.Given as goal

abbrev pub invariant-loop-name : goal.invariant-loop-name
invariant-loop-name l =
    l.slots.items ++ map (λ c. check l.path c.0) l.name-iterator
    ≡ l.fn.slots.items ++ map (λ c. check l.path c.0) (entries l.domain.checks)
