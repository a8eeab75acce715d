use Rattle.std.proofs.Common.{◌≡◌, ◌+◌, length, get_or, rules, refl, sym, ap, ◌∙◌}
use Rattle.std.proofs.lemmas.Result.{err_from_is_err_and}
use Rattle.folder_io.proofs.Dues.{due_map}
use Rattle.folder_rows.specs.Reading.{data_text, total_of, rows_from}
use Rattle.folder_rows.proofs.Steps.{begins, no_text, too_much, goes_on, ended}
use Rattle.folder_rows.proofs.reading.read_texts.Goals as goal

pub loop-table-init : goal.loop-table-init
loop-table-init g c = record {
  kept = refl;
  read_count = refl;
  write_count = refl;
  within = c.requires;
  so_far = λ tree told. begins c.args.folder.now tree c.args.used c.args.tables.now c.new-rows.result c.new-rows.ensures;
}

pub returns-in_err-text-clause-due : goal.returns-in_err-text-clause-due
returns-in_err-text-clause-due g c = λ tree told.
    let folder = c.args.folder.now in
    let tables = c.args.tables.now in
    let l = c.loop-table in
    let p = err_from_is_err_and c.from_residual.result c.from_residual.ensures.1 in
    rw (p.1, p.2) (due_map _ (data_text folder tree (get_or tables l.table-index 0)) (rows_from folder tree c.args.used tables)
    (no_text folder tree c.args.used tables l.rows l.bytes l.table-index (l.invariant.so_far tree told) c.loop-table-test.true)
    (c.in_err-text.ensures.due tree (l.invariant.kept ∙ told)))

pub returns-in_err-check_total-clause-due : goal.returns-in_err-check_total-clause-due
returns-in_err-check_total-clause-due g c = λ tree told.
    let folder = c.args.folder.now in
    let tables = c.args.tables.now in
    let l = c.loop-table in
    let long : c.len.result ≡ length c.in_ok-text.text.items = search rules in
    let p = err_from_is_err_and c.from_residual-in_err-check_total.result c.from_residual-in_err-check_total.ensures.1 in
    rw (p.1, p.2) (due_map _ (total_of (l.bytes + c.len.result)) (rows_from folder tree c.args.used tables)
    (λ fault past. too_much folder tree c.args.used tables l.rows l.bytes l.table-index (l.invariant.so_far tree told) c.loop-table-test.true c.in_ok-text.text.items fault (c.in_ok-text.ensures.due tree (l.invariant.kept ∙ told)) (ap (λ n. total_of (l.bytes + n)) (sym long) ∙ past))
    c.in_err-check_total.ensures.due)

pub loop-table-preserved : goal.loop-table-preserved
loop-table-preserved g c = record {
  kept = search rules;
  read_count = search rules;
  write_count = search rules;
  within = c.in_ok-check_total.ensures.within;
  so_far = λ tree told.
      let l = c.loop-table in
      let long : c.len.result ≡ length c.in_ok-text.text.items = search rules in
      rw long
      (goes_on c.args.folder.now tree c.args.used c.args.tables.now l.rows l.bytes l.table-index (l.invariant.so_far tree told) c.loop-table-test.true c.in_ok-text.text.items _ c.put.new.self (c.in_ok-text.ensures.due tree (l.invariant.kept ∙ told)) (ap (λ n. total_of (l.bytes + n)) (sym long) ∙ c.in_ok-check_total.ensures.due) c.in_ok-put.ensures.ok);
}

pub returns-clause-due : goal.returns-clause-due
returns-clause-due g c = λ tree told.
    let l = c.loop-table in
    ended c.args.folder.now tree c.args.used c.args.tables.now l.rows l.bytes l.table-index (l.invariant.so_far tree told) c.loop-table-test.false
