-- The current database is among those that are left.
use Rattle.std.proofs.Common.{◌≡◌, drop}
use Rattle.script_runs.specs.Writing.{current_name}
use Rattle.script_runs.proofs.texts.current_name.Given as goal

abbrev pub invariant-loop-database : goal.invariant-loop-database
invariant-loop-database l = current_name (drop l.database-index l.databases) ≡ current_name l.databases
