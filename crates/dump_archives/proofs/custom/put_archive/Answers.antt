use Rattle.std.proofs.Common.{◌≡◌, ◌+◌, ◌++◌, ℕ, [], length, refl, ap, ◌∙◌, arith}
use Rattle.std.proofs.lemmas.Result.{err_from_is_err_and}
use Rattle.dump_files.specs.Outlets.{outside}
use Rattle.dump_files.proofs.OutletLemmas.{more_waits}
use Rattle.dump_plain.specs.Dumps.{of_text}
use Rattle.dump_plain.proofs.GoingLemmas.{late_dump, goes_text, goes_as, goes_on, goes_stop, goes_cut, goes_cut_here, goes_spilled, goes_end, stands_none}
use Rattle.dump_archives.specs.Customs.{blocks_out, first_front, unplaced_out, places_from}
use Rattle.dump_archives.proofs.BlockLemmas.{unplaced-is}
use Rattle.dump_archives.proofs.GrowingLemmas.{stands_all, first_waits}
use Rattle.dump_archives.proofs.custom.put_archive.Goals as goal

pub returns-in_err-rows-clause-err : goal.returns-in_err-rows-clause-err
returns-in_err-rows-clause-err g c = λ tree before b is apart.
    let p = err_from_is_err_and c.from_residual-in_err-rows.result c.from_residual-in_err-rows.ensures.1 in
    let target = c.args.target.now in
    let due = unplaced_out tree c.args.head.now c.args.entries.now c.args.needed.now in
    let still = blocks_out tree c.args.entries.now c.args.needed.now in
    let front = first_front c.args.head.now c.args.entries.now in
    let now = outside (g.F.Files.tree c.args.files.now) (g.O.Sink.written c.args.out.now) in
    let now2 = outside (g.F.Files.tree c.put_blocks.new.files) (g.O.Sink.written c.put_blocks.new.out) in
    let stands = stands_none target before now c.new-waiting.result.items b c.new-waiting.ensures.items in
    let goes = goes_text target due [] before now c.new-waiting.result.items front c.write_unplaced.new.out.items still stands c.in_ok-write_unplaced.ensures (unplaced-is tree c.args.head.now c.args.entries.now c.args.needed.now) in
    let found = c.in_err-rows.ensures.err tree ([] ++ goes.text) before goes.stands is apart in
    rw (p.1, p.2) (
      goes_stop target due [] before now c.write_unplaced.new.out.items 0 still goes tree c.args.needed.now c.args.needed.now c.in_err-rows.field-0.0 (λ l. l) found.0,
      goes_cut target due [] before now c.write_unplaced.new.out.items 0 still goes now2 found.1,
    )

pub returns-in_err-flush-clause-err : goal.returns-in_err-flush-clause-err
returns-in_err-flush-clause-err g c = λ tree before b is apart.
    let p = err_from_is_err_and c.from_residual-in_err-flush.result c.from_residual-in_err-flush.ensures.1 in
    let target = c.args.target.now in
    let due = unplaced_out tree c.args.head.now c.args.entries.now c.args.needed.now in
    let still = blocks_out tree c.args.entries.now c.args.needed.now in
    let front = first_front c.args.head.now c.args.entries.now in
    let now = outside (g.F.Files.tree c.args.files.now) (g.O.Sink.written c.args.out.now) in
    let now2 = outside (g.F.Files.tree c.put_blocks.new.files) (g.O.Sink.written c.put_blocks.new.out) in
    let now3 = outside (g.F.Files.tree c.flush.new.files) (g.O.Sink.written c.flush.new.out) in
    let stands = stands_none target before now c.new-waiting.result.items b c.new-waiting.ensures.items in
    let goes = goes_text target due [] before now c.new-waiting.result.items front c.write_unplaced.new.out.items still stands c.in_ok-write_unplaced.ensures (unplaced-is tree c.args.head.now c.args.entries.now c.args.needed.now) in
    let found = c.in_ok-rows.ensures.ok tree ([] ++ goes.text) before goes.stands is apart in
    let all = goes_on target due [] before now c.write_unplaced.new.out.items 0 still goes now2 c.put_blocks.new.waiting.items c.in_ok-rows.rows (of_text []) found in
    rw (p.1, p.2) (
      late_dump tree c.args.needed.now due c.in_err-flush.field-0.0 c.in_err-flush.ensures.late,
      goes_cut_here target due [] before now2 c.put_blocks.new.waiting.items (0 + c.in_ok-rows.rows) (of_text []) all now3 (c.in_err-flush.ensures.err ([] ++ all.text) before all.stands),
    )

pub returns-clause-ok : goal.returns-clause-ok
returns-clause-ok g c = λ tree before b is apart.
    let target = c.args.target.now in
    let due = unplaced_out tree c.args.head.now c.args.entries.now c.args.needed.now in
    let still = blocks_out tree c.args.entries.now c.args.needed.now in
    let front = first_front c.args.head.now c.args.entries.now in
    let now = outside (g.F.Files.tree c.args.files.now) (g.O.Sink.written c.args.out.now) in
    let now2 = outside (g.F.Files.tree c.put_blocks.new.files) (g.O.Sink.written c.put_blocks.new.out) in
    let now3 = outside (g.F.Files.tree c.flush.new.files) (g.O.Sink.written c.flush.new.out) in
    let stands = stands_none target before now c.new-waiting.result.items b c.new-waiting.ensures.items in
    let goes = goes_text target due [] before now c.new-waiting.result.items front c.write_unplaced.new.out.items still stands c.in_ok-write_unplaced.ensures (unplaced-is tree c.args.head.now c.args.entries.now c.args.needed.now) in
    let found = c.in_ok-rows.ensures.ok tree ([] ++ goes.text) before goes.stands is apart in
    let all = goes_on target due [] before now c.write_unplaced.new.out.items 0 still goes now2 c.put_blocks.new.waiting.items c.in_ok-rows.rows (of_text []) found in
    let spilled = goes_spilled target due [] before now2 c.put_blocks.new.waiting.items (0 + c.in_ok-rows.rows) (of_text []) all now3 c.flush.new.waiting.items c.in_ok-flush.ensures.ok in
    let exact = goes_as target due [] before now3 c.flush.new.waiting.items (0 + c.in_ok-rows.rows) c.in_ok-rows.rows (of_text []) (of_text []) (omega arith) refl spilled in
    goes_end target due before now3 c.flush.new.waiting.items c.in_ok-rows.rows exact c.in_ok-flush.ensures.none

pub returns-clause-places : goal.returns-clause-places
returns-clause-places g c = λ tree before name at b is apart.
    let target = c.args.target.now in
    let front = first_front c.args.head.now c.args.entries.now in
    let now = outside (g.F.Files.tree c.args.files.now) (g.O.Sink.written c.args.out.now) in
    let stands = stands_none target before now c.new-waiting.result.items b c.new-waiting.ensures.items in
    let first = more_waits target [] front before now c.new-waiting.result.items c.write_unplaced.new.out.items stands c.in_ok-write_unplaced.ensures in
    let whole : c.write_unplaced.new.out.items ≡ front = first_waits front c.new-waiting.result.items c.write_unplaced.new.out.items c.new-waiting.ensures.items c.in_ok-write_unplaced.ensures in
    let count : 0 + length c.write_unplaced.new.out.items ≡ length front = omega (arith, ap length whole) in
    c.in_ok-rows.ensures.places tree ([] ++ front) before name at first count is apart
    ∙ ap (λ (k : ℕ). c.args.places.now.items ++ places_from tree k c.args.entries.now c.args.needed.now) count

pub returns-clause-room : goal.returns-clause-room
returns-clause-room g c = λ before b.
    let target = c.args.target.now in
    let front = first_front c.args.head.now c.args.entries.now in
    let now = outside (g.F.Files.tree c.args.files.now) (g.O.Sink.written c.args.out.now) in
    let now3 = outside (g.F.Files.tree c.flush.new.files) (g.O.Sink.written c.flush.new.out) in
    let stands = stands_none target before now c.new-waiting.result.items b c.new-waiting.ensures.items in
    let first = more_waits target [] front before now c.new-waiting.result.items c.write_unplaced.new.out.items stands c.in_ok-write_unplaced.ensures in
    let whole : c.write_unplaced.new.out.items ≡ front = first_waits front c.new-waiting.result.items c.write_unplaced.new.out.items c.new-waiting.ensures.items c.in_ok-write_unplaced.ensures in
    let count : 0 + length c.write_unplaced.new.out.items ≡ length front = omega (arith, ap length whole) in
    let grown = c.in_ok-rows.ensures.grows ([] ++ front) before first count in
    (grown.more, stands_all target (front ++ grown.more) before now3 c.flush.new.waiting.items (c.in_ok-flush.ensures.ok (front ++ grown.more) before grown.stands) c.in_ok-flush.ensures.none)
