-- The bytes so far are plain.
use Rattle.std.proofs.Common.{◌≡◌, ◌-◌, ◌<◌, ◌≤◌, ℕ, false, length, slice_index}
use Rattle.field_marks.specs.Marks.{is_special}
use Rattle.field_marks.proofs.clear.is_plain.Given as goal

abbrev pub invariant-runs : goal.invariant-runs
invariant-runs l = record {
  within : l.at ≤ length l.text;
  plain : (k : ℕ) → k < l.at → is_special (slice_index l.text k) ≡ false;
}

abbrev pub decreases-runs : goal.decreases-runs
decreases-runs l = length l.text - l.at
