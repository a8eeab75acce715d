-- The texts so far are those of the labels so far.
use Rattle.std.proofs.Common.{◌≡◌, take}
use Rattle.type_ends.specs.Enums.{labels_seen}
use Rattle.type_ends.proofs.ends.copied.Given as goal

abbrev pub invariant-loop-label : goal.invariant-loop-label
invariant-loop-label l = l.texts.items ≡ labels_seen (take l.label-index l.labels)
