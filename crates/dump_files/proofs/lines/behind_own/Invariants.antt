use Rattle.std.proofs.Common.{◌≡◌, ◌+◌, ◌≤◌, ℕ, length}
use Rattle.dump_files.specs.Readings.{IsOwnRun}
use Rattle.dump_files.proofs.lines.behind_own.Given as goal

-- the lines so far stand for their rows
abbrev pub invariant-loop-line : goal.invariant-loop-line
invariant-loop-line l = record {
  room : l.count + length l.rest ≤ l.fn.rows + length l.fn.text;
  within : length l.rest ≤ length l.fn.text;
  run : IsOwnRun l.columns l.fn.rows l.fn.text l.rest l.count;
}

abbrev pub decreases-loop-line : goal.decreases-loop-line
decreases-loop-line l = length l.rest
