use Rattle.std.proofs.Common.{rules, Option, ap, ◌≡◌, true}
use Rattle.std.proofs.lemmas.Result.{err_from_is_err_and}
use Rattle.dump_ports.specs.Tree.{Tree}
use Rattle.dump_files.specs.Spelled.{spelled}
use Rattle.dump_files.specs.Outlets.{outside}
use Rattle.dump_files.proofs.OutletLemmas.{cut_more, stands_cut}
use Rattle.dump_files.proofs.RowsLemmas.{late_stop, going_start, going_next, going_due, going_at, going_cut_at, going_spilled, spill_cut, going_end}
use Rattle.dump_files.proofs.rows.put_rows.Goals as goal

pub returns-in_err-reader-clause-err : goal.returns-in_err-reader-clause-err
returns-in_err-reader-clause-err g c = λ text done before s h a.
    let p = err_from_is_err_and c.from_residual.result c.from_residual.ensures.1 in
    rw (p.1, p.2) (
      tt,
      cut_more c.args.target.now done (spelled c.args.file.now.columns text).text before (outside (g.F.Files.tree c.args.files.now) (g.O.Sink.written c.args.out.now))
          (stands_cut c.args.target.now done before (outside (g.F.Files.tree c.args.files.now) (g.O.Sink.written c.args.out.now)) c.args.waiting.now.items s),
    )

pub pieces-init : goal.pieces-init
pieces-init g c = record {
  within = search rules;
  read_count = search rules;
  write_count = search rules;
  out_count = search rules;
  going = λ text done before s h a.
      going_start c.args.target.now c.args.file.now.columns c.args.file.now.name text done before c.in_ok-reader.reader (outside (g.F.Files.tree c.args.files.now) (g.O.Sink.written c.args.out.now)) c.args.waiting.now.items c.in_ok-reader.ensures s;
}

pub returns-in_err-more-clause-err : goal.returns-in_err-more-clause-err
returns-in_err-more-clause-err g c = λ text done before s h a.
    let p = err_from_is_err_and c.from_residual-in_err-more.result c.from_residual-in_err-more.ensures.1 in
    let now = outside (g.F.Files.tree c.pieces.files) (g.O.Sink.written c.pieces.out) in
    let going = c.pieces.invariant.going text done before s h a in
    rw (p.1, p.2) (
      going_due c.args.target.now c.args.file.now.columns c.args.file.now.name text done before c.pieces.reader now c.pieces.waiting.items going c.args.file.now.table c.in_err-more.field-0.0 a h c.in_err-more.ensures.due,
      going_cut_at c.args.target.now c.args.file.now.columns c.args.file.now.name text done before c.pieces.reader now c.pieces.waiting.items going
          (outside (g.F.Files.tree c.next.new.files) (g.O.Sink.written c.pieces.out)) (ap (λ (t : Option Tree). outside t (g.O.Sink.written c.pieces.out)) c.in_err-more.ensures.kept),
    )

pub returns-in_err-spill-clause-err : goal.returns-in_err-spill-clause-err
returns-in_err-spill-clause-err g c = λ text done before s h a.
    let p = err_from_is_err_and c.from_residual-in_err-spill.result c.from_residual-in_err-spill.ensures.1 in
    let now = outside (g.F.Files.tree c.pieces.files) (g.O.Sink.written c.pieces.out) in
    let between = outside (g.F.Files.tree c.next.new.files) (g.O.Sink.written c.pieces.out) in
    let after = outside (g.F.Files.tree c.spill.new.files) (g.O.Sink.written c.spill.new.out) in
    let going = c.pieces.invariant.going text done before s h a in
    let next = going_next c.args.target.now c.args.file.now.columns c.args.file.now.name text done before c.pieces.reader now c.pieces.waiting.items going c.next.new.self c.next.new.out.items a h c.in_ok-more.ensures.same in
    let here = going_at c.args.target.now c.args.file.now.columns c.args.file.now.name text done before c.next.new.self now c.next.new.out.items next between (ap (λ (t : Option Tree). outside t (g.O.Sink.written c.pieces.out)) c.in_ok-more.ensures.kept) in
    rw (p.1, p.2) (late_stop c.args.file.now.table text (spelled c.args.file.now.columns text) c.in_err-spill.field-0.0 c.in_err-spill.ensures.late, spill_cut c.args.target.now c.args.file.now.columns c.args.file.now.name text done before c.next.new.self between c.next.new.out.items here after c.in_err-spill.ensures.err)

pub returns-then-not-more-clause-ok : goal.returns-then-not-more-clause-ok
returns-then-not-more-clause-ok g c = λ text done before s h a.
    let now = outside (g.F.Files.tree c.pieces.files) (g.O.Sink.written c.pieces.out) in
    let between = outside (g.F.Files.tree c.next.new.files) (g.O.Sink.written c.pieces.out) in
    let after = outside (g.F.Files.tree c.spill.new.files) (g.O.Sink.written c.spill.new.out) in
    let going = c.pieces.invariant.going text done before s h a in
    let next = going_next c.args.target.now c.args.file.now.columns c.args.file.now.name text done before c.pieces.reader now c.pieces.waiting.items going c.next.new.self c.next.new.out.items a h c.in_ok-more.ensures.same in
    let here = going_at c.args.target.now c.args.file.now.columns c.args.file.now.name text done before c.next.new.self now c.next.new.out.items next between (ap (λ (t : Option Tree). outside t (g.O.Sink.written c.pieces.out)) c.in_ok-more.ensures.kept) in
    let spilled = going_spilled c.args.target.now c.args.file.now.columns c.args.file.now.name text done before c.next.new.self between c.next.new.out.items here after c.spill.new.waiting.items c.in_ok-spill.ensures.ok in
    let over : c.next.new.self.over ≡ true = search rules in
    rw c.rows.ensures.value (going_end c.args.target.now c.args.file.now.columns c.args.file.now.name text done before c.next.new.self after c.spill.new.waiting.items spilled over)

pub pieces-preserved : goal.pieces-preserved
pieces-preserved g c = record {
  within = search rules;
  read_count = search rules;
  write_count = search rules;
  out_count = search rules;
  going = λ text done before s h a.
      let now = outside (g.F.Files.tree c.pieces.files) (g.O.Sink.written c.pieces.out) in
      let between = outside (g.F.Files.tree c.next.new.files) (g.O.Sink.written c.pieces.out) in
      let after = outside (g.F.Files.tree c.spill.new.files) (g.O.Sink.written c.spill.new.out) in
      let going = c.pieces.invariant.going text done before s h a in
      let next = going_next c.args.target.now c.args.file.now.columns c.args.file.now.name text done before c.pieces.reader now c.pieces.waiting.items going c.next.new.self c.next.new.out.items a h c.in_ok-more.ensures.same in
      let here = going_at c.args.target.now c.args.file.now.columns c.args.file.now.name text done before c.next.new.self now c.next.new.out.items next between (ap (λ (t : Option Tree). outside t (g.O.Sink.written c.pieces.out)) c.in_ok-more.ensures.kept) in
      going_spilled c.args.target.now c.args.file.now.columns c.args.file.now.name text done before c.next.new.self between c.next.new.out.items here after c.spill.new.waiting.items c.in_ok-spill.ensures.ok;
}
