-- The oids so far, with those of the rows that are left, are those of all.
use Rattle.std.proofs.Common.{◌≡◌, drop}
use Rattle.cat_rows.specs.declared.relations.RewriteRow.{RewriteRow}
use Rattle.opening_ids.specs.Opening.{of_body, all_given}
use Rattle.opening_ids.proofs.parts.give_bodies.Given as goal

abbrev pub invariant-loop-row : goal.invariant-loop-row
invariant-loop-row l = all_given (λ (r : RewriteRow). r.oid) (of_body l.book) l.ids (drop l.row-index l.rows) ≡ all_given (λ (r : RewriteRow). r.oid) (of_body l.book) l.fn.ids l.rows
