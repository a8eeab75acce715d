use Rattle.std.proofs.Common.{◌≡◌, ◌+◌, ◌≤◌, ◌++◌, false, List, ℕ, length}
use Rattle.dump_files.specs.Readings.{coming, behind}
use Rattle.dump_files.proofs.lines.spell_lines.Given as goal

-- what is out, with what is to come of the rest, is as it was
abbrev pub invariant-loop-line : goal.invariant-loop-line
invariant-loop-line l = record {
  room : l.count + length l.rest ≤ l.fn.rows + length l.fn.text;
  within : length l.rest ≤ length l.fn.text;
  same : (more : List ℕ) → behind l.fn.out.items l.fn.rows (coming l.columns l.fn.rows false (l.fn.text ++ more)) ≡ behind l.out.items l.count (coming l.columns l.count false (l.rest ++ more));
}

abbrev pub decreases-loop-line : goal.decreases-loop-line
decreases-loop-line l = length l.rest
