use Rattle.std.proofs.Common.{◌≡◌, ◌≤◌, ◌+◌, List, length, reverse}
use Rattle.toc_entry.specs.declared.entry.Entry.{Entry}
use Rattle.list_files.specs.Books.{LeadsTo}
use Rattle.list_files.specs.Edits.{mentions}
use Rattle.list_files.specs.Lines.{lines}
use Rattle.list_files.proofs.Saying.{ahead}
use Rattle.list_files.proofs.editing.mentions.Given as goal

abbrev pub invariant-loop-places : goal.invariant-loop-places
invariant-loop-places l =
    (l.line_number + length l.rest ≤ length l.list + 1)
    × ((entries : List Entry) → LeadsTo (reverse entries) l.book → mentions entries 1 (lines l.list) ≡ ahead l.places.items (mentions entries l.line_number (lines l.rest)))

abbrev pub decreases-loop-places : goal.decreases-loop-places
decreases-loop-places l = length l.rest
