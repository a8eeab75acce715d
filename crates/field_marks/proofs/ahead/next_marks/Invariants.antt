-- No tab or newline stands among the bytes so far.
use Rattle.std.proofs.Common.{◌-◌, ◌≤◌, length}
use Rattle.memchr.specs.Find.{Nowhere}
use Rattle.field_marks.specs.Marks.{Separates}
use Rattle.field_marks.proofs.ahead.next_marks.Given as goal

abbrev pub invariant-runs : goal.invariant-runs
invariant-runs l = record {
  within : l.at ≤ length l.text;
  none : Nowhere (Separates l.text) 0 l.at;
}

abbrev pub decreases-runs : goal.decreases-runs
decreases-runs l = length l.text - l.at
