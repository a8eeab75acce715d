-- The oids so far, with those of the rows that are left, are those of all.
use Rattle.std.proofs.Common.{◌≡◌, drop}
use Rattle.cat_rows.specs.declared.relations.ClassRow.{ClassRow}
use Rattle.opening_ids.specs.Opening.{of_relation, all_given}
use Rattle.opening_ids.proofs.objects.give_relations.Given as goal

abbrev pub invariant-loop-row : goal.invariant-loop-row
invariant-loop-row l = all_given (λ (r : ClassRow). r.oid) (of_relation l.book) l.ids (drop l.row-index l.rows) ≡ all_given (λ (r : ClassRow). r.oid) (of_relation l.book) l.fn.ids l.rows
