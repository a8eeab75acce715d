use Rattle.std.proofs.Common.{◌∙◌, rules}
use Rattle.std.proofs.lemmas.List.{drop_all}
use Rattle.std.proofs.lemmas.Result.{err_from_is_err_and}
use Rattle.archive_scripts.specs.Directories.{rows_within}
use Rattle.restore_input.specs.Answers.{texts_seen}
use Rattle.restore_input.specs.Inputs.{texts_due}
use Rattle.restore_input.proofs.Dues.{dir_due_behind}
use Rattle.restore_input.proofs.RowsRead.{begun, text_next, text_stops, text_last}
use Rattle.restore_input.proofs.directory.texts_of.Goals as goal

pub loop-entry-init : goal.loop-entry-init
loop-entry-init g c = record {
  kept = search rules;
  read_count = search rules;
  write_count = search rules;
  so_far = λ d tree holds told. begun (texts_due d tree c.args.used c.args.entries.now) _ c.new-texts.ensures.items;
}

pub returns-in_err-bytes-clause-due : goal.returns-in_err-bytes-clause-due
returns-in_err-bytes-clause-due g c = λ d tree holds told.
    let l = c.loop-entry in
    let es = c.args.entries.now in
    let e = c.entry-item.result in
    let p = err_from_is_err_and c.from_residual.result c.from_residual.ensures.1 in
    rw (p.1, p.2) (dir_due_behind _ (rows_within d tree l.bytes e.dump_id) (texts_due d tree c.args.used es)
    (λ f due. text_stops d tree l.bytes (texts_seen l.texts.items) es l.entry-index e f (texts_due d tree c.args.used es) c.loop-entry-test.true c.entry-item.is due (l.invariant.so_far d tree holds told))
    (c.in_err-bytes.ensures.due d tree holds (l.invariant.kept ∙ told)))

pub loop-entry-preserved : goal.loop-entry-preserved
loop-entry-preserved g c = record {
  kept = search rules;
  read_count = search rules;
  write_count = search rules;
  so_far = λ d tree holds told.
      let l = c.loop-entry in
      let due = c.in_ok-bytes.ensures.due d tree holds (l.invariant.kept ∙ told) in
      text_next d tree l.bytes (texts_seen l.texts.items) c.args.entries.now l.entry-index c.entry-item.result due.0 c.in_ok-bytes.bytes (texts_seen c.push_rows.new.texts.items) (texts_due d tree c.args.used c.args.entries.now)
      c.loop-entry-test.true c.entry-item.is due.1 due.2 (l.invariant.so_far d tree holds told);
}

pub returns-clause-due : goal.returns-clause-due
returns-clause-due g c = λ d tree holds told.
    let l = c.loop-entry in
    text_last d tree l.bytes (texts_seen l.texts.items) c.args.entries.now l.entry-index (texts_due d tree c.args.used c.args.entries.now)
    (drop_all l.entry-index c.args.entries.now c.loop-entry-test.false) (l.invariant.so_far d tree holds told)
