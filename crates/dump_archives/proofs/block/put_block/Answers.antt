use Rattle.std.proofs.Common.{◌≡◌, true, Option, rules, refl, ap}
use Rattle.std.proofs.lemmas.Result.{err_from_is_err_and}
use Rattle.dump_ports.specs.Tree.{Tree}
use Rattle.fmt_custom.specs.Stored.{open_block}
use Rattle.dump_files.specs.Spelled.{spelled}
use Rattle.dump_files.specs.Outlets.{outside}
use Rattle.dump_files.proofs.OutletLemmas.{cut_more, stands_cut}
use Rattle.dump_files.proofs.RowsLemmas.{late_stop}
use Rattle.dump_archives.specs.Pieces.{pieces_of}
use Rattle.dump_archives.proofs.GrowingLemmas.{grown_start, grown_more, grown_at, grown_passed}
use Rattle.dump_archives.proofs.PackingLemmas.{packing_start, packing_next, packing_due, packing_at, packing_cut, packing_packed, packing_spilled, packing_spill_cut, packing_end}
use Rattle.dump_archives.proofs.block.put_block.Goals as goal

pub returns-in_err-start_block-clause-err : goal.returns-in_err-start_block-clause-err
returns-in_err-start_block-clause-err g c = λ text done before s h a.
    let p = err_from_is_err_and c.from_residual.result c.from_residual.ensures.1 in
    let target = c.args.target.now in
    let columns = c.args.file.now.columns in
    let name = c.args.file.now.name in
    let id = c.args.id in
    let table = c.args.file.now.table in
    let due = spelled columns text in
    let whole = open_block id (pieces_of due.text) in
    let now = outside (g.F.Files.tree c.args.files.now) (g.O.Sink.written c.args.out.now) in
    rw (p.1, p.2) (tt, cut_more target done whole before now (stands_cut target done before now c.args.waiting.now.items s))

pub returns-in_err-reader-clause-err : goal.returns-in_err-reader-clause-err
returns-in_err-reader-clause-err g c = λ text done before s h a.
    let p = err_from_is_err_and c.from_residual-in_err-reader.result c.from_residual-in_err-reader.ensures.1 in
    let target = c.args.target.now in
    let columns = c.args.file.now.columns in
    let name = c.args.file.now.name in
    let id = c.args.id in
    let table = c.args.file.now.table in
    let due = spelled columns text in
    let whole = open_block id (pieces_of due.text) in
    let now = outside (g.F.Files.tree c.args.files.now) (g.O.Sink.written c.args.out.now) in
    rw (p.1, p.2) (tt, cut_more target done whole before now (stands_cut target done before now c.args.waiting.now.items s))

pub pieces-init : goal.pieces-init
pieces-init g c = record {
  within = search rules;
  read_count = search rules;
  write_count = search rules;
  out_count = search rules;
  packing = λ text done before s h a.
      let target = c.args.target.now in
      let columns = c.args.file.now.columns in
      let name = c.args.file.now.name in
      let id = c.args.id in
      let table = c.args.file.now.table in
      let due = spelled columns text in
      let whole = open_block id (pieces_of due.text) in
      let now = outside (g.F.Files.tree c.args.files.now) (g.O.Sink.written c.args.out.now) in
      packing_start target columns name text done before id c.in_ok-reader.reader now c.args.waiting.now.items c.start_block.new.out.items c.new-run.result.items c.in_ok-reader.ensures s c.in_ok-start_block.ensures.ok c.new-run.ensures.items;
  grown = λ done before s n.
      let now = outside (g.F.Files.tree c.args.files.now) (g.O.Sink.written c.args.out.now) in
      let start = grown_start c.args.target.now done before now c.args.waiting.now.items c.args.passed.now s n in
      grown_more c.args.target.now done before now c.args.waiting.now.items c.args.passed.now start _ c.start_block.new.out.items c.in_ok-start_block.ensures.ok;
}

pub returns-in_err-more-clause-err : goal.returns-in_err-more-clause-err
returns-in_err-more-clause-err g c = λ text done before s h a.
    let p = err_from_is_err_and c.from_residual-in_err-more.result c.from_residual-in_err-more.ensures.1 in
    let target = c.args.target.now in
    let columns = c.args.file.now.columns in
    let name = c.args.file.now.name in
    let id = c.args.id in
    let table = c.args.file.now.table in
    let due = spelled columns text in
    let whole = open_block id (pieces_of due.text) in
    let now = outside (g.F.Files.tree c.pieces.files) (g.O.Sink.written c.pieces.out) in
    let between = outside (g.F.Files.tree c.next.new.files) (g.O.Sink.written c.pieces.out) in
    let packing = c.pieces.invariant.packing text done before s h a in
    rw (p.1, p.2) (
      packing_due target columns name text done before id c.pieces.reader now c.pieces.waiting.items c.pieces.run.items packing table c.in_err-more.field-0.0 a h c.in_err-more.ensures.due,
      packing_cut target columns name text done before id c.pieces.reader now c.pieces.waiting.items c.pieces.run.items packing between (ap (λ (t : Option Tree). outside t (g.O.Sink.written c.pieces.out)) c.in_err-more.ensures.kept),
    )

pub returns-in_err-pack-clause-err : goal.returns-in_err-pack-clause-err
returns-in_err-pack-clause-err g c = λ text done before s h a.
    let p = err_from_is_err_and c.from_residual-in_err-pack.result c.from_residual-in_err-pack.ensures.1 in
    let target = c.args.target.now in
    let columns = c.args.file.now.columns in
    let name = c.args.file.now.name in
    let id = c.args.id in
    let table = c.args.file.now.table in
    let due = spelled columns text in
    let whole = open_block id (pieces_of due.text) in
    let now = outside (g.F.Files.tree c.pieces.files) (g.O.Sink.written c.pieces.out) in
    let between = outside (g.F.Files.tree c.next.new.files) (g.O.Sink.written c.pieces.out) in
    let packing = c.pieces.invariant.packing text done before s h a in
    let next = packing_next target columns name text done before id c.pieces.reader now c.pieces.waiting.items c.pieces.run.items packing c.next.new.self c.next.new.out.items a h c.in_ok-more.ensures.same in
    let here = packing_at target columns name text done before id c.next.new.self now c.pieces.waiting.items c.next.new.out.items next between (ap (λ (t : Option Tree). outside t (g.O.Sink.written c.pieces.out)) c.in_ok-more.ensures.kept) in
    rw (p.1, p.2) (tt, packing_cut target columns name text done before id c.next.new.self between c.pieces.waiting.items c.next.new.out.items here between refl)

pub returns-in_err-pass-clause-err : goal.returns-in_err-pass-clause-err
returns-in_err-pass-clause-err g c = λ text done before s h a.
    let p = err_from_is_err_and c.from_residual-in_err-pass.result c.from_residual-in_err-pass.ensures.1 in
    let target = c.args.target.now in
    let columns = c.args.file.now.columns in
    let name = c.args.file.now.name in
    let id = c.args.id in
    let table = c.args.file.now.table in
    let due = spelled columns text in
    let whole = open_block id (pieces_of due.text) in
    let now = outside (g.F.Files.tree c.pieces.files) (g.O.Sink.written c.pieces.out) in
    let between = outside (g.F.Files.tree c.next.new.files) (g.O.Sink.written c.pieces.out) in
    let packing = c.pieces.invariant.packing text done before s h a in
    let next = packing_next target columns name text done before id c.pieces.reader now c.pieces.waiting.items c.pieces.run.items packing c.next.new.self c.next.new.out.items a h c.in_ok-more.ensures.same in
    let here = packing_at target columns name text done before id c.next.new.self now c.pieces.waiting.items c.next.new.out.items next between (ap (λ (t : Option Tree). outside t (g.O.Sink.written c.pieces.out)) c.in_ok-more.ensures.kept) in
    let after = outside (g.F.Files.tree c.pass.new.files) (g.O.Sink.written c.pass.new.out) in
    let packed = packing_packed target columns name text done before id c.next.new.self between c.pieces.waiting.items c.next.new.out.items here c.pack.new.waiting.items c.pack.new.run.items c.in_ok-pack.ensures.ok in
    rw (p.1, p.2) (
      late_stop table text due c.in_err-pass.field-0.0 c.in_err-pass.ensures.late,
      packing_spill_cut target columns name text done before id c.next.new.self between c.pack.new.waiting.items c.pack.new.run.items packed after c.in_err-pass.ensures.err,
    )

pub returns-in_err-finish_block-clause-err : goal.returns-in_err-finish_block-clause-err
returns-in_err-finish_block-clause-err g c = λ text done before s h a.
    let p = err_from_is_err_and c.from_residual-in_err-finish_block.result c.from_residual-in_err-finish_block.ensures.1 in
    let target = c.args.target.now in
    let columns = c.args.file.now.columns in
    let name = c.args.file.now.name in
    let id = c.args.id in
    let table = c.args.file.now.table in
    let due = spelled columns text in
    let whole = open_block id (pieces_of due.text) in
    let now = outside (g.F.Files.tree c.pieces.files) (g.O.Sink.written c.pieces.out) in
    let between = outside (g.F.Files.tree c.next.new.files) (g.O.Sink.written c.pieces.out) in
    let packing = c.pieces.invariant.packing text done before s h a in
    let next = packing_next target columns name text done before id c.pieces.reader now c.pieces.waiting.items c.pieces.run.items packing c.next.new.self c.next.new.out.items a h c.in_ok-more.ensures.same in
    let here = packing_at target columns name text done before id c.next.new.self now c.pieces.waiting.items c.next.new.out.items next between (ap (λ (t : Option Tree). outside t (g.O.Sink.written c.pieces.out)) c.in_ok-more.ensures.kept) in
    let after = outside (g.F.Files.tree c.pass.new.files) (g.O.Sink.written c.pass.new.out) in
    let packed = packing_packed target columns name text done before id c.next.new.self between c.pieces.waiting.items c.next.new.out.items here c.pack.new.waiting.items c.pack.new.run.items c.in_ok-pack.ensures.ok in
    let spilled = packing_spilled target columns name text done before id c.next.new.self between c.pack.new.waiting.items c.pack.new.run.items packed after c.pass.new.waiting.items c.in_ok-pass.ensures.ok in
    rw (p.1, p.2) (tt, packing_cut target columns name text done before id c.next.new.self after c.pass.new.waiting.items c.pack.new.run.items spilled after refl)

pub returns-then-not-more-clause-ok : goal.returns-then-not-more-clause-ok
returns-then-not-more-clause-ok g c = λ text done before s h a.
    let target = c.args.target.now in
    let columns = c.args.file.now.columns in
    let name = c.args.file.now.name in
    let id = c.args.id in
    let table = c.args.file.now.table in
    let due = spelled columns text in
    let whole = open_block id (pieces_of due.text) in
    let now = outside (g.F.Files.tree c.pieces.files) (g.O.Sink.written c.pieces.out) in
    let between = outside (g.F.Files.tree c.next.new.files) (g.O.Sink.written c.pieces.out) in
    let packing = c.pieces.invariant.packing text done before s h a in
    let next = packing_next target columns name text done before id c.pieces.reader now c.pieces.waiting.items c.pieces.run.items packing c.next.new.self c.next.new.out.items a h c.in_ok-more.ensures.same in
    let here = packing_at target columns name text done before id c.next.new.self now c.pieces.waiting.items c.next.new.out.items next between (ap (λ (t : Option Tree). outside t (g.O.Sink.written c.pieces.out)) c.in_ok-more.ensures.kept) in
    let after = outside (g.F.Files.tree c.pass.new.files) (g.O.Sink.written c.pass.new.out) in
    let packed = packing_packed target columns name text done before id c.next.new.self between c.pieces.waiting.items c.next.new.out.items here c.pack.new.waiting.items c.pack.new.run.items c.in_ok-pack.ensures.ok in
    let spilled = packing_spilled target columns name text done before id c.next.new.self between c.pack.new.waiting.items c.pack.new.run.items packed after c.pass.new.waiting.items c.in_ok-pass.ensures.ok in
    let over : c.next.new.self.over ≡ true = search rules in
    rw c.rows.ensures.value (packing_end target columns name text done before id c.next.new.self after c.pass.new.waiting.items c.pack.new.run.items spilled c.finish_block.new.waiting.items over (rw c.deref.ensures.value at c.in_ok-finish_block.ensures) (c.blocks_grow_by_pieces.ensures.ends id))

pub returns-then-not-more-clause-grows : goal.returns-then-not-more-clause-grows
returns-then-not-more-clause-grows g c = λ done before s n.
    let target = c.args.target.now in
    let now = outside (g.F.Files.tree c.pieces.files) (g.O.Sink.written c.pieces.out) in
    let between = outside (g.F.Files.tree c.next.new.files) (g.O.Sink.written c.pieces.out) in
    let behind = outside (g.F.Files.tree c.pass.new.files) (g.O.Sink.written c.pass.new.out) in
    let so_far = c.pieces.invariant.grown done before s n in
    let here = grown_at target done before now c.pieces.waiting.items c.pieces.passed so_far between (ap (λ (t : Option Tree). outside t (g.O.Sink.written c.pieces.out)) c.in_ok-more.ensures.kept) in
    let packed = grown_more target done before between c.pieces.waiting.items c.pieces.passed here c.in_ok-pack.ensures.ok.0 c.pack.new.waiting.items c.in_ok-pack.ensures.ok.1 in
    let passed = grown_passed target done before between c.pack.new.waiting.items c.pieces.passed packed behind c.pass.new.waiting.items c.pass.new.passed c.in_ok-pass.ensures.ok c.in_ok-pass.ensures.count in
    grown_more target done before behind c.pass.new.waiting.items c.pass.new.passed passed _ c.finish_block.new.waiting.items c.in_ok-finish_block.ensures

pub pieces-preserved : goal.pieces-preserved
pieces-preserved g c = record {
  within = search rules;
  read_count = search rules;
  write_count = search rules;
  out_count = search rules;
  packing = λ text done before s h a.
      let target = c.args.target.now in
      let columns = c.args.file.now.columns in
      let name = c.args.file.now.name in
      let id = c.args.id in
      let table = c.args.file.now.table in
      let due = spelled columns text in
      let whole = open_block id (pieces_of due.text) in
      let now = outside (g.F.Files.tree c.pieces.files) (g.O.Sink.written c.pieces.out) in
      let between = outside (g.F.Files.tree c.next.new.files) (g.O.Sink.written c.pieces.out) in
      let packing = c.pieces.invariant.packing text done before s h a in
      let next = packing_next target columns name text done before id c.pieces.reader now c.pieces.waiting.items c.pieces.run.items packing c.next.new.self c.next.new.out.items a h c.in_ok-more.ensures.same in
      let here = packing_at target columns name text done before id c.next.new.self now c.pieces.waiting.items c.next.new.out.items next between (ap (λ (t : Option Tree). outside t (g.O.Sink.written c.pieces.out)) c.in_ok-more.ensures.kept) in
      let after = outside (g.F.Files.tree c.pass.new.files) (g.O.Sink.written c.pass.new.out) in
      let packed = packing_packed target columns name text done before id c.next.new.self between c.pieces.waiting.items c.next.new.out.items here c.pack.new.waiting.items c.pack.new.run.items c.in_ok-pack.ensures.ok in
      packing_spilled target columns name text done before id c.next.new.self between c.pack.new.waiting.items c.pack.new.run.items packed after c.pass.new.waiting.items c.in_ok-pass.ensures.ok;
  grown = λ done before s n.
      let target = c.args.target.now in
      let now = outside (g.F.Files.tree c.pieces.files) (g.O.Sink.written c.pieces.out) in
      let between = outside (g.F.Files.tree c.next.new.files) (g.O.Sink.written c.pieces.out) in
      let behind = outside (g.F.Files.tree c.pass.new.files) (g.O.Sink.written c.pass.new.out) in
      let so_far = c.pieces.invariant.grown done before s n in
      let here = grown_at target done before now c.pieces.waiting.items c.pieces.passed so_far between (ap (λ (t : Option Tree). outside t (g.O.Sink.written c.pieces.out)) c.in_ok-more.ensures.kept) in
      let packed = grown_more target done before between c.pieces.waiting.items c.pieces.passed here c.in_ok-pack.ensures.ok.0 c.pack.new.waiting.items c.in_ok-pack.ensures.ok.1 in
      grown_passed target done before between c.pack.new.waiting.items c.pieces.passed packed behind c.pass.new.waiting.items c.pass.new.passed c.in_ok-pass.ensures.ok c.in_ok-pass.ensures.count;
}
