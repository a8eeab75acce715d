use Rattle.ddl_scripts.proofs.Common.{◌≡◌, ◌-◌, ◌≤◌, ◌++◌, length, drop, slice_range, rows_in}
use Rattle.ddl_scripts.proofs.copy_rows.rows_from.Given as goal

-- the lines so far are rows, and those behind are the others
abbrev pub invariant-lines : goal.invariant-lines
invariant-lines l = record {
  low : l.from ≤ l.at;
  within : l.at ≤ length l.text;
  same : rows_in (drop l.from l.text) ≡ slice_range l.text l.from l.at ++ rows_in (drop l.at l.text);
}

abbrev pub decreases-lines : goal.decreases-lines
decreases-lines l = length l.text - l.at
