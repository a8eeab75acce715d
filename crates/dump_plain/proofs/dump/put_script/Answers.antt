use Rattle.std.proofs.Common.{◌+◌, ◌++◌, [], refl, arith}
use Rattle.std.proofs.lemmas.Result.{err_from_is_err_and}
use Rattle.fmt_text.specs.Script.{script_head, script_end}
use Rattle.dump_files.specs.Outlets.{outside}
use Rattle.dump_plain.specs.Dumps.{of_text, parts_out, plain_out}
use Rattle.dump_plain.proofs.GoingLemmas.{late_dump, none_cut, goes_text, goes_as, goes_on, goes_stop, goes_cut, goes_cut_now, goes_cut_here, goes_spilled, goes_end, plain-is, last_text, stands_none}
use Rattle.dump_plain.proofs.dump.put_script.Goals as goal

pub returns-in_err-put_head-clause-err : goal.returns-in_err-put_head-clause-err
returns-in_err-put_head-clause-err g c = λ tree before b is apart.
    let p = err_from_is_err_and c.from_residual.result c.from_residual.ensures.1 in
    let due = plain_out tree c.args.head.now c.args.owners c.args.entries.now c.args.needed.now in
    let now = outside (g.F.Files.tree c.args.files.now) (g.O.Sink.written c.args.out.now) in
    rw (p.1, p.2) (tt, none_cut c.args.target.now due.text [] before now c.new-waiting.result.items (stands_none c.args.target.now before now c.new-waiting.result.items b c.new-waiting.ensures.items))

pub returns-in_err-rows-clause-err : goal.returns-in_err-rows-clause-err
returns-in_err-rows-clause-err g c = λ tree before b is apart.
    let p = err_from_is_err_and c.from_residual-in_err-rows.result c.from_residual-in_err-rows.ensures.1 in
    let target = c.args.target.now in
    let due = plain_out tree c.args.head.now c.args.owners c.args.entries.now c.args.needed.now in
    let still = parts_out tree c.args.owners (of_text script_end) c.args.entries.now c.args.needed.now in
    let now = outside (g.F.Files.tree c.args.files.now) (g.O.Sink.written c.args.out.now) in
    let now2 = outside (g.F.Files.tree c.put_parts.new.files) (g.O.Sink.written c.put_parts.new.out) in
    let stands = stands_none target before now c.new-waiting.result.items b c.new-waiting.ensures.items in
    let goes = goes_text target due [] before now c.new-waiting.result.items (script_head c.args.head.now) c.put_head.new.out.items still stands c.in_ok-put_head.ensures.ok (plain-is tree c.args.head.now c.args.owners c.args.entries.now c.args.needed.now) in
    let found = c.in_err-rows.ensures.err tree ([] ++ goes.text) before (of_text script_end) goes.stands is apart in
    rw (p.1, p.2) (
      goes_stop target due [] before now c.put_head.new.out.items 0 still goes tree c.args.needed.now c.args.needed.now c.in_err-rows.field-0.0 (λ l. l) found.0,
      goes_cut target due [] before now c.put_head.new.out.items 0 still goes now2 found.1,
    )

pub returns-in_err-put_end-clause-err : goal.returns-in_err-put_end-clause-err
returns-in_err-put_end-clause-err g c = λ tree before b is apart.
    let p = err_from_is_err_and c.from_residual-in_err-put_end.result c.from_residual-in_err-put_end.ensures.1 in
    let target = c.args.target.now in
    let due = plain_out tree c.args.head.now c.args.owners c.args.entries.now c.args.needed.now in
    let still = parts_out tree c.args.owners (of_text script_end) c.args.entries.now c.args.needed.now in
    let now = outside (g.F.Files.tree c.args.files.now) (g.O.Sink.written c.args.out.now) in
    let now2 = outside (g.F.Files.tree c.put_parts.new.files) (g.O.Sink.written c.put_parts.new.out) in
    let stands = stands_none target before now c.new-waiting.result.items b c.new-waiting.ensures.items in
    let goes = goes_text target due [] before now c.new-waiting.result.items (script_head c.args.head.now) c.put_head.new.out.items still stands c.in_ok-put_head.ensures.ok (plain-is tree c.args.head.now c.args.owners c.args.entries.now c.args.needed.now) in
    let found = c.in_ok-rows.ensures.ok tree ([] ++ goes.text) before (of_text script_end) goes.stands is apart in
    let all = goes_on target due [] before now c.put_head.new.out.items 0 still goes now2 c.put_parts.new.waiting.items c.in_ok-rows.rows (of_text script_end) found in
    rw (p.1, p.2) (tt, goes_cut_now target due [] before now2 c.put_parts.new.waiting.items (0 + c.in_ok-rows.rows) (of_text script_end) all)

pub returns-in_err-flush-clause-err : goal.returns-in_err-flush-clause-err
returns-in_err-flush-clause-err g c = λ tree before b is apart.
    let p = err_from_is_err_and c.from_residual-in_err-flush.result c.from_residual-in_err-flush.ensures.1 in
    let target = c.args.target.now in
    let due = plain_out tree c.args.head.now c.args.owners c.args.entries.now c.args.needed.now in
    let still = parts_out tree c.args.owners (of_text script_end) c.args.entries.now c.args.needed.now in
    let now = outside (g.F.Files.tree c.args.files.now) (g.O.Sink.written c.args.out.now) in
    let now2 = outside (g.F.Files.tree c.put_parts.new.files) (g.O.Sink.written c.put_parts.new.out) in
    let now3 = outside (g.F.Files.tree c.flush.new.files) (g.O.Sink.written c.flush.new.out) in
    let stands = stands_none target before now c.new-waiting.result.items b c.new-waiting.ensures.items in
    let goes = goes_text target due [] before now c.new-waiting.result.items (script_head c.args.head.now) c.put_head.new.out.items still stands c.in_ok-put_head.ensures.ok (plain-is tree c.args.head.now c.args.owners c.args.entries.now c.args.needed.now) in
    let found = c.in_ok-rows.ensures.ok tree ([] ++ goes.text) before (of_text script_end) goes.stands is apart in
    let all = goes_on target due [] before now c.put_head.new.out.items 0 still goes now2 c.put_parts.new.waiting.items c.in_ok-rows.rows (of_text script_end) found in
    let last = goes_text target (of_text script_end) ([] ++ all.text) before now2 c.put_parts.new.waiting.items script_end c.put_end.new.out.items (of_text []) all.stands c.in_ok-put_end.ensures.ok (last_text script_end) in
    let whole = goes_on target due [] before now2 c.put_parts.new.waiting.items (0 + c.in_ok-rows.rows) (of_text script_end) all now2 c.put_end.new.out.items 0 (of_text []) last in
    rw (p.1, p.2) (
      late_dump tree c.args.needed.now due c.in_err-flush.field-0.0 c.in_err-flush.ensures.late,
      goes_cut_here target due [] before now2 c.put_end.new.out.items (0 + c.in_ok-rows.rows + 0) (of_text []) whole now3 (c.in_err-flush.ensures.err ([] ++ whole.text) before whole.stands),
    )

pub returns-clause-ok : goal.returns-clause-ok
returns-clause-ok g c = λ tree before b is apart.
    let target = c.args.target.now in
    let due = plain_out tree c.args.head.now c.args.owners c.args.entries.now c.args.needed.now in
    let still = parts_out tree c.args.owners (of_text script_end) c.args.entries.now c.args.needed.now in
    let now = outside (g.F.Files.tree c.args.files.now) (g.O.Sink.written c.args.out.now) in
    let now2 = outside (g.F.Files.tree c.put_parts.new.files) (g.O.Sink.written c.put_parts.new.out) in
    let now3 = outside (g.F.Files.tree c.flush.new.files) (g.O.Sink.written c.flush.new.out) in
    let stands = stands_none target before now c.new-waiting.result.items b c.new-waiting.ensures.items in
    let goes = goes_text target due [] before now c.new-waiting.result.items (script_head c.args.head.now) c.put_head.new.out.items still stands c.in_ok-put_head.ensures.ok (plain-is tree c.args.head.now c.args.owners c.args.entries.now c.args.needed.now) in
    let found = c.in_ok-rows.ensures.ok tree ([] ++ goes.text) before (of_text script_end) goes.stands is apart in
    let all = goes_on target due [] before now c.put_head.new.out.items 0 still goes now2 c.put_parts.new.waiting.items c.in_ok-rows.rows (of_text script_end) found in
    let last = goes_text target (of_text script_end) ([] ++ all.text) before now2 c.put_parts.new.waiting.items script_end c.put_end.new.out.items (of_text []) all.stands c.in_ok-put_end.ensures.ok (last_text script_end) in
    let whole = goes_on target due [] before now2 c.put_parts.new.waiting.items (0 + c.in_ok-rows.rows) (of_text script_end) all now2 c.put_end.new.out.items 0 (of_text []) last in
    let spilled = goes_spilled target due [] before now2 c.put_end.new.out.items (0 + c.in_ok-rows.rows + 0) (of_text []) whole now3 c.flush.new.waiting.items c.in_ok-flush.ensures.ok in
    let exact = goes_as target due [] before now3 c.flush.new.waiting.items (0 + c.in_ok-rows.rows + 0) c.in_ok-rows.rows (of_text []) (of_text []) (omega arith) refl spilled in
    goes_end target due before now3 c.flush.new.waiting.items c.in_ok-rows.rows exact c.in_ok-flush.ensures.none
