-- The numbers so far, with those of the objects that are left, are those of all.
use Rattle.std.proofs.Common.{◌≡◌, ◌++◌, drop}
use Rattle.dump_toc.specs.Numbers.{first_ids}
use Rattle.dump_toc.proofs.numbering.first_ids.Given as goal

abbrev pub invariant-loop-count : goal.invariant-loop-count
invariant-loop-count l = l.ids.items ++ first_ids l.next (drop l.count-index l.counts) ≡ first_ids 5 l.counts
