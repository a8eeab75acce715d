-- Those of the rows so far that are kept.
use Rattle.std.proofs.Common.{◌≡◌, map, take}
use Rattle.std.specs.List.{filter}
use Rattle.dump_rows.specs.Rows.{is_check}
use Rattle.dump_rows.proofs.dump_rows.checks.Given as goal

abbrev pub invariant-loop-row : goal.invariant-loop-row
invariant-loop-row l = map (λ r. r.now) l.found.items ≡ filter is_check (map (λ r. r.now) (take l.row-index l.rows))
