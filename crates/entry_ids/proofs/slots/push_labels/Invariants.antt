-- Those so far, with the labels that are left, are all.
use Rattle.std.proofs.Common.{◌≡◌, ◌++◌, drop}
use Rattle.entry_ids.specs.Entries.{labels_from}
use Rattle.entry_ids.proofs.slots.push_labels.Given as goal

abbrev pub invariant-loop-place : goal.invariant-loop-place
invariant-loop-place l =
    l.slots.items ++ labels_from l.path l.place (drop l.place l.labels)
    ≡ l.fn.slots.items ++ labels_from l.path 0 l.labels
