-- Those of the entries so far.
use Rattle.std.proofs.Common.{◌≡◌, take}
use Rattle.dump_choices.specs.Data.{table_data}
use Rattle.dump_choices.proofs.data.of_entries.Given as goal

abbrev pub invariant-loop-entry : goal.invariant-loop-entry
invariant-loop-entry l = l.found.items ≡ table_data l.rows (take l.entry-index l.entries)
