use Rattle.std.proofs.Common.{◌++◌, ℕ, List, length, inr, ap, ◌∙◌}
use Rattle.std.proofs.lemmas.Result.{err_from_is_err_and}
use Rattle.toc_layout.specs.Heads.{head_seen}
use Rattle.fmt_custom.specs.Writing.{front_text}
use Rattle.archive_entries.specs.Extras.{told}
use Rattle.dump_files.specs.Outlets.{outside}
use Rattle.dump_plain.proofs.GoingLemmas.{late_dump, begun_text}
use Rattle.dump_archives.specs.Customs.{first_front, unplaced_out, places_from}
use Rattle.dump_archives.proofs.PlaceLemmas.{has_room, front_as_long, placed_out, halted_out, halted_cut}
use Rattle.dump_archives.proofs.custom.put_dump.Goals as goal

pub returns-in_err-begin-clause-err : goal.returns-in_err-begin-clause-err
returns-in_err-begin-clause-err g c = λ tree is apart.
    let p = err_from_is_err_and c.from_residual.result c.from_residual.ensures.1 in
    let due = unplaced_out tree c.args.head.now c.args.entries.now c.args.needed.now in
    let before = outside (g.F.Files.tree c.args.files.now) (g.O.Sink.written c.args.out.now) in
    let now = outside (g.F.Files.tree c.begin.new.files) (g.O.Sink.written c.begin.new.out) in
    rw (p.1, p.2) (
      late_dump tree c.args.needed.now due c.in_err-begin.field-0.0 c.in_err-begin.ensures.late,
      halted_cut tree c.args.target.now c.args.head.now c.args.entries.now c.args.needed.now before now (begun_text c.args.target.now due.text before now c.in_err-begin.ensures.err),
    )

pub returns-in_err-rows-clause-err : goal.returns-in_err-rows-clause-err
returns-in_err-rows-clause-err g c = λ tree is apart.
    let p = err_from_is_err_and c.from_residual-in_err-rows.result c.from_residual-in_err-rows.ensures.1 in
    let before = outside (g.F.Files.tree c.args.files.now) (g.O.Sink.written c.args.out.now) in
    let now = outside (g.F.Files.tree c.put_archive.new.files) (g.O.Sink.written c.put_archive.new.out) in
    let found = c.in_err-rows.ensures.err tree before c.in_ok-begin.ensures.ok is apart in
    rw (p.1, p.2) (found.0, halted_cut tree c.args.target.now c.args.head.now c.args.entries.now c.args.needed.now before now (inr found.1))

pub place_front-requires-clause-room : goal.place_front-requires-clause-room
place_front-requires-clause-room g c =
    let before = outside (g.F.Files.tree c.args.files.now) (g.O.Sink.written c.args.out.now) in
    let now = outside (g.F.Files.tree c.put_archive.new.files) (g.O.Sink.written c.put_archive.new.out) in
    let room = c.in_ok-rows.ensures.room before c.in_ok-begin.ensures.ok in
    has_room c.args.target.now (first_front c.args.head.now c.args.entries.now) room.0 (front_text (head_seen c.args.head.now) (told c.args.entries.now c.deref.result.now)) before now room.1 (front_as_long (head_seen c.args.head.now) c.args.entries.now c.deref.result.now)

pub returns-in_err-place_front-clause-err : goal.returns-in_err-place_front-clause-err
returns-in_err-place_front-clause-err g c = λ tree is apart.
    let p = err_from_is_err_and c.from_residual-in_err-place_front.result c.from_residual-in_err-place_front.ensures.1 in
    let target = c.args.target.now in
    let head = c.args.head.now in
    let entries = c.args.entries.now in
    let needed = c.args.needed.now in
    let due = unplaced_out tree head entries needed in
    let before = outside (g.F.Files.tree c.args.files.now) (g.O.Sink.written c.args.out.now) in
    let mid = outside (g.F.Files.tree c.put_archive.new.files) (g.O.Sink.written c.put_archive.new.out) in
    let found = c.in_ok-rows.ensures.ok tree before c.in_ok-begin.ensures.ok is apart in
    rw (p.1, p.2) (
      late_dump tree needed due c.in_err-place_front.field-0.0 c.in_err-place_front.ensures.late,
      halted_out tree head entries needed c.deref.result.now before mid (g.F.Files.tree c.place_front.new.files) target found.0 found.2 c.in_err-place_front.ensures.err
          (λ name at. c.deref.ensures.value ∙ c.in_ok-rows.ensures.places tree before name at c.in_ok-begin.ensures.ok is apart ∙ ap (λ (l : List ℕ). l ++ places_from tree (length (first_front head entries)) entries needed) c.new-places.ensures.items),
    )

pub returns-clause-ok : goal.returns-clause-ok
returns-clause-ok g c = λ tree is apart.
    let target = c.args.target.now in
    let head = c.args.head.now in
    let entries = c.args.entries.now in
    let needed = c.args.needed.now in
    let before = outside (g.F.Files.tree c.args.files.now) (g.O.Sink.written c.args.out.now) in
    let mid = outside (g.F.Files.tree c.put_archive.new.files) (g.O.Sink.written c.put_archive.new.out) in
    let found = c.in_ok-rows.ensures.ok tree before c.in_ok-begin.ensures.ok is apart in (
      found.0,
      found.1,
      placed_out tree head entries needed c.deref.result.now before mid (g.F.Files.tree c.place_front.new.files) target found.2 c.in_ok-place_front.ensures.ok
          (λ name at. c.deref.ensures.value ∙ c.in_ok-rows.ensures.places tree before name at c.in_ok-begin.ensures.ok is apart ∙ ap (λ (l : List ℕ). l ++ places_from tree (length (first_front head entries)) entries needed) c.new-places.ensures.items),
    )
