-- The oids so far, with those of the rows that are left, are those of all.
use Rattle.std.proofs.Common.{◌≡◌, drop}
use Rattle.cat_rows.specs.declared.roles.AuthidRow.{AuthidRow}
use Rattle.opening_ids.specs.Opening.{of_role, all_given}
use Rattle.opening_ids.proofs.cluster.give_roles.Given as goal

abbrev pub invariant-loop-row : goal.invariant-loop-row
invariant-loop-row l = all_given (λ (r : AuthidRow). r.oid) of_role l.ids (drop l.row-index l.rows) ≡ all_given (λ (r : AuthidRow). r.oid) of_role l.fn.ids l.rows
