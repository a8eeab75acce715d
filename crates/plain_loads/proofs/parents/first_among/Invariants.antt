-- The first table of the path is among those that are left.
use Rattle.std.proofs.Common.{◌≡◌, drop}
use Rattle.rows_named.specs.Tables.{first_table}
use Rattle.plain_loads.proofs.parents.first_among.Given as goal

abbrev pub invariant-loop-i : goal.invariant-loop-i
invariant-loop-i l = first_table l.book l.path l.classes ≡ first_table l.book l.path (drop l.i l.classes)
