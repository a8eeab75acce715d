-- The entries so far, with those of the drafts that are left, are those of all.
use Rattle.std.proofs.Common.{◌≡◌, ◌++◌}
use Rattle.std.specs.Vec.Iter.{into_iter_items, into_iter_len}
use Rattle.dump_toc.specs.Numbers.{entries_from}
use Rattle.dump_toc.proofs.numbering.add_entries.Given as goal

abbrev pub invariant-drafts : goal.invariant-drafts
invariant-drafts l = l.entries.items ++ entries_from l.ids l.dump_id (into_iter_items l.left) ≡ l.fn.entries.items ++ entries_from l.ids 5 l.fn.drafts.items

abbrev pub decreases-drafts : goal.decreases-drafts
decreases-drafts l = into_iter_len l.left
