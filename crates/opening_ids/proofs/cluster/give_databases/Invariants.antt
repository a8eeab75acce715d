-- The oids so far, with those of the rows that are left, are those of all.
use Rattle.std.proofs.Common.{◌≡◌, drop}
use Rattle.cat_rows.specs.declared.roles.DatabaseRow.{DatabaseRow}
use Rattle.opening_ids.specs.Opening.{of_database, all_given}
use Rattle.opening_ids.proofs.cluster.give_databases.Given as goal

abbrev pub invariant-loop-row : goal.invariant-loop-row
invariant-loop-row l = all_given (λ (r : DatabaseRow). r.oid) of_database l.ids (drop l.row-index l.rows) ≡ all_given (λ (r : DatabaseRow). r.oid) of_database l.fn.ids l.rows
