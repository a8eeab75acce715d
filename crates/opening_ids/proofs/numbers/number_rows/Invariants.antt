-- The numbers so far, with those of the rows that are left, are those of all.
use Rattle.std.proofs.Common.{◌≡◌, drop}
use Rattle.opening_ids.specs.Opening.{opening_numbers}
use Rattle.opening_ids.proofs.numbers.number_rows.Given as goal

abbrev pub invariant-loop-row : goal.invariant-loop-row
invariant-loop-row l = opening_numbers l.book l.numbers (drop l.row-index l.rows) ≡ opening_numbers l.book l.fn.numbers l.rows
