use Rattle.std.proofs.Common.{◌∙◌, get_or, rules}
use Rattle.std.proofs.lemmas.List.{drop_all}
use Rattle.std.proofs.lemmas.Result.{err_from_is_err_and}
use Rattle.std.specs.List.{slice_get}
use Rattle.archive_scripts.specs.Directories.{part_due, parts_due}
use Rattle.archive_scripts.proofs.Steps.{due_behind, part_next, part_stops, part_last}
use Rattle.archive_scripts.proofs.directory.with_parts.Goals as goal

pub returns-in_err-bytes-clause-due : goal.returns-in_err-bytes-clause-due
returns-in_err-bytes-clause-due g c = λ d tree holds told.
    let l = c.loop-place in
    let places = c.args.places.now in
    let p = err_from_is_err_and c.from_residual.result c.from_residual.ensures.1 in
    rw (p.1, p.2) (due_behind _ (part_due c.args.owners d tree l.bytes (slice_get d.entries (get_or places l.place-index 0))) (parts_due c.args.owners d tree c.args.used c.args.text.items places)
    (λ f due. part_stops c.args.owners d tree l.bytes l.all.items places l.place-index f (parts_due c.args.owners d tree c.args.used c.args.text.items places) c.loop-place-test.true due (l.invariant.so_far d tree holds told))
    (c.in_err-bytes.ensures.due d tree holds (l.invariant.kept ∙ told)))

pub loop-place-preserved : goal.loop-place-preserved
loop-place-preserved g c = record {
  kept = search rules;
  read_count = search rules;
  write_count = search rules;
  so_far = λ d tree holds told.
      let l = c.loop-place in
      let due = c.in_ok-bytes.ensures.due d tree holds (l.invariant.kept ∙ told) in
      part_next c.args.owners d tree l.bytes l.all.items c.args.places.now l.place-index due.0 c.in_ok-bytes.bytes c.put_at.new.text.items (parts_due c.args.owners d tree c.args.used c.args.text.items c.args.places.now)
      c.loop-place-test.true due.1 due.2 (l.invariant.so_far d tree holds told);
}

pub returns-clause-due : goal.returns-clause-due
returns-clause-due g c = λ d tree holds told.
    let l = c.loop-place in
    part_last c.args.owners d tree l.bytes l.all.items c.args.places.now l.place-index (parts_due c.args.owners d tree c.args.used c.args.text.items c.args.places.now)
    (drop_all l.place-index c.args.places.now c.loop-place-test.false) (l.invariant.so_far d tree holds told)
