-- The current database is among those that are left.
use Rattle.std.proofs.Common.{◌≡◌, drop}
use Rattle.std.specs.List.{find}
use Rattle.dump_toc.specs.Session.{current_database}
use Rattle.dump_tools.proofs.dumps.database_name.Given as goal

abbrev pub invariant-loop-row : goal.invariant-loop-row
invariant-loop-row l = find (λ d. d.datcurrent) (drop l.row-index l.rows) ≡ current_database l.cat
