-- The numbers so far, with those of the columns that are left, are those of all; and there is room for them.
use Rattle.std.proofs.Common.{◌≡◌, ◌+◌, ◌-◌, ◌≤◌, length, drop}
use Rattle.column_numbers.specs.Rule.{last, with_columns}
use Rattle.column_numbers.proofs.rule.number_table.Given as goal

abbrev pub invariant-loop-i : goal.invariant-loop-i
invariant-loop-i l = record {
  rest : with_columns l.had l.table l.before (drop l.i l.columns) l.numbers ≡ with_columns l.had l.table 0 l.columns l.fn.numbers;
  room : l.before + (length l.columns - l.i) ≤ last;
}
