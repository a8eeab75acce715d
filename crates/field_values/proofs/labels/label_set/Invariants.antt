-- The set has the labels so far.
use Rattle.std.proofs.Common.{take}
use Rattle.field_values.specs.Labels.{AreLabels}
use Rattle.field_values.proofs.labels.label_set.Given as goal

abbrev pub invariant-loop-label : goal.invariant-loop-label
invariant-loop-label l = AreLabels (take l.label-index l.labels) l.set
