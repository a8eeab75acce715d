-- The columns so far.
use Rattle.std.proofs.Common.{◌≡◌, map, take}
use Rattle.dump_stmts.specs.Views.{null_columns}
use Rattle.dump_stmts.proofs.views.null_columns.Given as goal

abbrev pub invariant-loop-row : goal.invariant-loop-row
invariant-loop-row l = map (λ c. c.items) l.columns.items ≡ null_columns (map (λ r. r.now) (take l.row-index l.rows))
