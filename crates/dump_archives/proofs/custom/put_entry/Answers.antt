use Rattle.std.proofs.Common.{◌≡◌, ◌+◌, ◌++◌, true, length, rules, refl, ap, subst, sym, arith, length-append}
use Rattle.std.proofs.lemmas.Result.{err_from_is_err_and}
use Rattle.dump_ports.specs.Tree.{bytes_at}
use Rattle.dump_files.specs.Outlets.{outside}
use Rattle.fmt_custom.specs.Stored.{block_by}
use Rattle.dump_files.specs.Stops.{IsLate}
use Rattle.dump_plain.specs.Dumps.{file_rows}
use Rattle.dump_plain.proofs.GoingLemmas.{apart_first, late_dump, none_cut}
use Rattle.dump_archives.specs.Pieces.{pieces_of}
use Rattle.dump_archives.specs.Customs.{with_block}
use Rattle.dump_archives.proofs.BlockLemmas.{next_block_ok, next_block_err}
use Rattle.dump_archives.proofs.GrowingLemmas.{same_text}
use Rattle.dump_archives.proofs.PlaceLemmas.{next_place}
use Rattle.dump_archives.proofs.custom.put_entry.Goals as goal

pub returns-in_err-rows-clause-err : goal.returns-in_err-rows-clause-err
returns-in_err-rows-clause-err g c = λ tree done before more s is apart.
    let p = err_from_is_err_and c.from_residual-in_err-rows.result c.from_residual-in_err-rows.ensures.1 in
    let split = c.in-Some.ensures.cases.0 in
    let has : c.args.entry.now.has_rows ≡ true = search rules in
    let text = bytes_at tree c.in-Some.file.now.name in
    let found = c.in_err-rows.ensures.err text done before s (record { told = tree; is = is; bytes = refl }) (apart_first c.args.target.now tree c.args.needed.now c.in-Some.file.now c.in-Some.others.now split apart) in
    rw (p.1, p.2) (next_block_err c.blocks_grow_by_pieces.ensures.ends c.args.target.now tree c.args.entry.now.dump_id c.args.entry.now.has_rows has c.args.needed.now c.in-Some.file.now c.in-Some.others.now split more done before (outside (g.F.Files.tree c.put_block.new.files) (g.O.Sink.written c.put_block.new.out)) c.in_err-rows.field-0.0 found)

pub returns-clause-ok : goal.returns-clause-ok
returns-clause-ok g c = λ tree done before more s is apart.
    let split = c.in-Some.ensures.cases.0 in
    let has : c.args.entry.now.has_rows ≡ true = search rules in
    let text = bytes_at tree c.in-Some.file.now.name in
    let found = c.in_ok-rows.ensures.ok text done before s (record { told = tree; is = is; bytes = refl }) (apart_first c.args.target.now tree c.args.needed.now c.in-Some.file.now c.in-Some.others.now split apart) in
    next_block_ok c.blocks_grow_by_pieces.ensures.ends c.args.target.now tree c.args.entry.now.dump_id c.args.entry.now.has_rows has c.args.needed.now c.in-Some.file.now c.in-Some.others.now split more done before (outside (g.F.Files.tree c.put_block.new.files) (g.O.Sink.written c.put_block.new.out)) c.in_ok-rows.rows c.put_block.new.waiting.items found

pub returns-in_err-at-clause-err : goal.returns-in_err-at-clause-err
returns-in_err-at-clause-err g c = λ tree done before more s is apart.
    let p = err_from_is_err_and c.from_residual.result c.from_residual.ensures.1 in
    let due = with_block tree c.args.entry.now.dump_id c.args.entry.now.has_rows c.args.needed.now more in
    rw (p.1, p.2) (
      late_dump tree c.args.needed.now due c.in_err-at.field-0.0 (subst IsLate (sym c.in_err-at.ensures.late) tt),
      none_cut c.args.target.now due.text done before (outside (g.F.Files.tree c.args.files.now) (g.O.Sink.written c.args.out.now)) c.args.waiting.now.items s,
    )

pub returns-in_err-push-clause-err : goal.returns-in_err-push-clause-err
returns-in_err-push-clause-err g c = λ tree done before more s is apart.
    let p = err_from_is_err_and c.from_residual-in_err-push.result c.from_residual-in_err-push.ensures.1 in
    let due = with_block tree c.args.entry.now.dump_id c.args.entry.now.has_rows c.args.needed.now more in
    rw (p.1, p.2) (tt, none_cut c.args.target.now due.text done before (outside (g.F.Files.tree c.args.files.now) (g.O.Sink.written c.args.out.now)) c.args.waiting.now.items s)

pub returns-clause-places : goal.returns-clause-places
returns-clause-places g c = λ tree done before name more at s n is apart.
    let target = c.args.target.now in
    let file = c.in-Some.file.now in
    let others = c.in-Some.others.now in
    let split = c.in-Some.ensures.cases.0 in
    let has : c.args.entry.now.has_rows ≡ true = search rules in
    let text = bytes_at tree file.name in
    let id = c.args.entry.now.dump_id in
    let block = block_by true id (pieces_of (file_rows tree file).text) in
    let here = c.args.passed.now + length c.args.waiting.now.items in
    let now = outside (g.F.Files.tree c.put_block.new.files) (g.O.Sink.written c.put_block.new.out) in
    let found = c.in_ok-rows.ensures.ok text done before s (record { told = tree; is = is; bytes = refl }) (apart_first target tree c.args.needed.now file others split apart) in
    let grown = c.in_ok-rows.ensures.grows done before s n in
    let same = same_text target name tree (done ++ grown.more) (done ++ block) before now c.put_block.new.waiting.items at is grown.stands found.2 in
    let behind : c.put_block.new.passed + length c.put_block.new.waiting.items ≡ here + length block = omega (arith, grown.count, ap length same, length-append done block, n) in
    next_place tree here id c.args.entry.now.has_rows c.args.needed.now file others more c.args.places.now.items c.push.new.self.items c.in_ok-at.at (c.put_block.new.passed + length c.put_block.new.waiting.items) has split
    (search rules) (search rules) behind
