-- The oids so far, with those of the rows that are left, are those of all.
use Rattle.std.proofs.Common.{◌≡◌, drop}
use Rattle.opening_ids.specs.Opening.{depends_avoided}
use Rattle.opening_ids.proofs.opening.avoid_depends.Given as goal

abbrev pub invariant-loop-row : goal.invariant-loop-row
invariant-loop-row l = depends_avoided l.ids (drop l.row-index l.rows) ≡ depends_avoided l.fn.ids l.rows
