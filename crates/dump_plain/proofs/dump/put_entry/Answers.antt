use Rattle.std.proofs.Common.{◌≡◌, ◌+◌, ◌++◌, true, None, refl, arith, rules, ap}
use Rattle.std.proofs.lemmas.Result.{err_from_is_err_and}
use Rattle.fmt_text.specs.Parts.{part}
use Rattle.dump_files.specs.Outlets.{outside}
use Rattle.dump_plain.specs.Dumps.{after, with_rows}
use Rattle.dump_plain.proofs.GoingLemmas.{late_dump, none_cut, goes_text, goes_spilled, goes_on, goes_as, goes_cut, goes_cut_here, goes_stop, having_rows}
use Rattle.dump_plain.proofs.dump.put_entry.Goals as goal

pub returns-in_err-put_part-clause-err : goal.returns-in_err-put_part-clause-err
returns-in_err-put_part-clause-err g c = λ tree done before more s is apart.
    let p = err_from_is_err_and c.from_residual.result c.from_residual.ensures.1 in
    let due = after (part c.args.owners c.args.entry.now None) 0 (with_rows tree c.args.entry.now.has_rows c.args.needed.now more) in
    rw (p.1, p.2) (tt, none_cut c.args.target.now due.text done before (outside (g.F.Files.tree c.args.files.now) (g.O.Sink.written c.args.out.now)) c.args.waiting.now.items s)

pub returns-in_err-spill-clause-err : goal.returns-in_err-spill-clause-err
returns-in_err-spill-clause-err g c = λ tree done before more s is apart.
    let p = err_from_is_err_and c.from_residual-in_err-spill.result c.from_residual-in_err-spill.ensures.1 in
    let target = c.args.target.now in
    let text = part c.args.owners c.args.entry.now None in
    let still = with_rows tree c.args.entry.now.has_rows c.args.needed.now more in
    let due = after text 0 still in
    let now = outside (g.F.Files.tree c.args.files.now) (g.O.Sink.written c.args.out.now) in
    let now2 = outside (g.F.Files.tree c.spill.new.files) (g.O.Sink.written c.spill.new.out) in
    let goes = goes_text target due done before now c.args.waiting.now.items text c.put_part.new.out.items still s c.in_ok-put_part.ensures.ok refl in
    rw (p.1, p.2) (
      late_dump tree c.args.needed.now due c.in_err-spill.field-0.0 c.in_err-spill.ensures.late,
      goes_cut_here target due done before now c.put_part.new.out.items 0 still goes now2 (c.in_err-spill.ensures.err (done ++ goes.text) before goes.stands),
    )

pub returns-in_err-count-clause-err : goal.returns-in_err-count-clause-err
returns-in_err-count-clause-err g c = λ tree done before more s is apart.
    let p = err_from_is_err_and c.from_residual-in_err-count.result c.from_residual-in_err-count.ensures.1 in
    let target = c.args.target.now in
    let text = part c.args.owners c.args.entry.now None in
    let has : c.args.entry.now.has_rows ≡ true = search rules in
    let same = having_rows tree c.args.entry.now.has_rows c.args.needed.now more has in
    let still = with_rows tree true c.args.needed.now more in
    let due = after text 0 (with_rows tree c.args.entry.now.has_rows c.args.needed.now more) in
    let now = outside (g.F.Files.tree c.args.files.now) (g.O.Sink.written c.args.out.now) in
    let now2 = outside (g.F.Files.tree c.spill.new.files) (g.O.Sink.written c.spill.new.out) in
    let now3 = outside (g.F.Files.tree c.put_next.new.files) (g.O.Sink.written c.put_next.new.out) in
    let goes = goes_text target due done before now c.args.waiting.now.items text c.put_part.new.out.items still s c.in_ok-put_part.ensures.ok (ap (after text 0) same) in
    let spilled = goes_spilled target due done before now c.put_part.new.out.items 0 still goes now2 c.spill.new.waiting.items c.in_ok-spill.ensures.ok in
    let found = c.in_err-count.ensures.err tree (done ++ spilled.text) before more spilled.stands is apart in
    rw (p.1, p.2) (
      goes_stop target due done before now2 c.spill.new.waiting.items 0 still spilled tree c.args.needed.now c.args.needed.now c.in_err-count.field-0.0 (λ l. l) found.0,
      goes_cut target due done before now2 c.spill.new.waiting.items 0 still spilled now3 found.1,
    )

pub returns-clause-ok : goal.returns-clause-ok
returns-clause-ok g c = λ tree done before more s is apart.
    let target = c.args.target.now in
    let text = part c.args.owners c.args.entry.now None in
    let has : c.args.entry.now.has_rows ≡ true = search rules in
    let same = having_rows tree c.args.entry.now.has_rows c.args.needed.now more has in
    let still = with_rows tree true c.args.needed.now more in
    let last = more c.in_ok-count.others.now in
    let due = after text 0 (with_rows tree c.args.entry.now.has_rows c.args.needed.now more) in
    let now = outside (g.F.Files.tree c.args.files.now) (g.O.Sink.written c.args.out.now) in
    let now2 = outside (g.F.Files.tree c.spill.new.files) (g.O.Sink.written c.spill.new.out) in
    let now3 = outside (g.F.Files.tree c.put_next.new.files) (g.O.Sink.written c.put_next.new.out) in
    let goes = goes_text target due done before now c.args.waiting.now.items text c.put_part.new.out.items still s c.in_ok-put_part.ensures.ok (ap (after text 0) same) in
    let spilled = goes_spilled target due done before now c.put_part.new.out.items 0 still goes now2 c.spill.new.waiting.items c.in_ok-spill.ensures.ok in
    let found = c.in_ok-count.ensures.ok tree (done ++ spilled.text) before more spilled.stands is apart in
    let all = goes_on target due done before now2 c.spill.new.waiting.items 0 still spilled now3 c.put_next.new.waiting.items c.in_ok-count.count last found in
    goes_as target due done before now3 c.put_next.new.waiting.items (0 + c.in_ok-count.count) c.in_ok-count.count last last (omega arith) refl all

pub returns-clause-left : goal.returns-clause-left
returns-clause-left g c = c.in_ok-count.ensures.left
