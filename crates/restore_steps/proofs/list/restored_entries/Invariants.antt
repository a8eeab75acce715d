-- The entries so far, before what is due of those to come, are what is due of all; and so it is with the counts.
use Rattle.std.proofs.Common.{◌≡◌, ◌++◌, drop, map}
use Rattle.std.specs.Vec.Iter.{into_iter_items}
use Rattle.restore_steps.specs.Faults.{entries_due}
use Rattle.restore_steps.specs.Statements.{definition_count}
use Rattle.restore_steps.proofs.Lists.{before}
use Rattle.restore_steps.proofs.list.restored_entries.Given as goal

abbrev pub invariant-loop-entry : goal.invariant-loop-entry
invariant-loop-entry l =
    (before l.restored.items (entries_due l.owners (drop l.entry-index l.entries) (into_iter_items l.texts)) ≡ entries_due l.owners l.entries l.fn.texts.items)
    × (l.counts.items ++ map definition_count (drop l.entry-index l.entries) ≡ map definition_count l.entries)
