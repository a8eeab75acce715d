-- The oids so far, with those of the rows that are left, are those of all.
use Rattle.std.proofs.Common.{◌≡◌, drop}
use Rattle.cat_rows.specs.declared.types.EnumRow.{EnumRow}
use Rattle.opening_ids.specs.Opening.{of_label, all_given}
use Rattle.opening_ids.proofs.objects.give_labels.Given as goal

abbrev pub invariant-loop-row : goal.invariant-loop-row
invariant-loop-row l = all_given (λ (r : EnumRow). r.oid) (of_label l.book) l.ids (drop l.row-index l.rows) ≡ all_given (λ (r : EnumRow). r.oid) (of_label l.book) l.fn.ids l.rows
