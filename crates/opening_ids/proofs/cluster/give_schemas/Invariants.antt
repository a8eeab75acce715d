-- The oids so far, with those of the rows that are left, are those of all.
use Rattle.std.proofs.Common.{◌≡◌, drop}
use Rattle.cat_rows.specs.declared.schemas.NamespaceRow.{NamespaceRow}
use Rattle.opening_ids.specs.Opening.{of_schema, all_given}
use Rattle.opening_ids.proofs.cluster.give_schemas.Given as goal

abbrev pub invariant-loop-row : goal.invariant-loop-row
invariant-loop-row l = all_given (λ (r : NamespaceRow). r.oid) of_schema l.ids (drop l.row-index l.rows) ≡ all_given (λ (r : NamespaceRow). r.oid) of_schema l.fn.ids l.rows
