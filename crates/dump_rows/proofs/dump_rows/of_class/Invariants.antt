-- Those of the rows so far that are kept.
use Rattle.std.proofs.Common.{◌≡◌, map, take}
use Rattle.std.specs.List.{filter}
use Rattle.cat_rows.specs.declared.notes.DescriptionRow.{DescriptionRow}
use Rattle.cat_names.specs.Lookups.{same_oid}
use Rattle.dump_rows.proofs.dump_rows.of_class.Given as goal

abbrev pub invariant-loop-row : goal.invariant-loop-row
invariant-loop-row l = map (λ r. r.now) l.found.items ≡ filter (λ (d : DescriptionRow). same_oid l.class d.classoid) (map (λ r. r.now) (take l.row-index l.rows))
