-- The bytes so far are plain.
use Rattle.std.proofs.Common.{◌≡◌, ◌<◌, ◌≤◌, ℕ, false, slice_index}
use Rattle.field_marks.specs.Marks.{is_special}
use Rattle.field_marks.proofs.clear.are_plain_behind.Given as goal

abbrev pub invariant-loop-i : goal.invariant-loop-i
invariant-loop-i l = (k : ℕ) → l.from ≤ k → k < l.i → is_special (slice_index l.text k) ≡ false
