-- The oids so far, with those of the rows that are left, are those of all.
use Rattle.std.proofs.Common.{◌≡◌, drop}
use Rattle.cat_rows.specs.declared.constraints.ConstraintRow.{ConstraintRow}
use Rattle.opening_ids.specs.Opening.{of_constraint, all_given}
use Rattle.opening_ids.proofs.parts.give_constraints.Given as goal

abbrev pub invariant-loop-row : goal.invariant-loop-row
invariant-loop-row l = all_given (λ (r : ConstraintRow). r.oid) (of_constraint l.book) l.ids (drop l.row-index l.rows) ≡ all_given (λ (r : ConstraintRow). r.oid) (of_constraint l.book) l.fn.ids l.rows
