-- The oids so far, with those of the rows that are left, are those of all.
use Rattle.std.proofs.Common.{◌≡◌, drop}
use Rattle.cat_rows.specs.declared.relations.AttrdefRow.{AttrdefRow}
use Rattle.opening_ids.specs.Opening.{of_default, all_given}
use Rattle.opening_ids.proofs.parts.give_defaults.Given as goal

abbrev pub invariant-loop-row : goal.invariant-loop-row
invariant-loop-row l = all_given (λ (r : AttrdefRow). r.oid) (of_default l.lookups) l.ids (drop l.row-index l.rows) ≡ all_given (λ (r : AttrdefRow). r.oid) (of_default l.lookups) l.fn.ids l.rows
