-- The oids so far, with those of the rows that are left, are those of all.
use Rattle.std.proofs.Common.{◌≡◌, drop}
use Rattle.cat_rows.specs.declared.types.TypeRow.{TypeRow}
use Rattle.opening_ids.specs.Opening.{of_type, all_given}
use Rattle.opening_ids.proofs.objects.give_types.Given as goal

abbrev pub invariant-loop-row : goal.invariant-loop-row
invariant-loop-row l = all_given (λ (r : TypeRow). r.oid) (of_type l.book) l.ids (drop l.row-index l.rows) ≡ all_given (λ (r : TypeRow). r.oid) (of_type l.book) l.fn.ids l.rows
