use Rattle.std.proofs.Common.{map}
use Rattle.std.proofs.lemmas.Result.{err_from_is_err_and}
use Rattle.archive_entries.specs.Extras.{filed}
use Rattle.fmt_directory.specs.Directories.{toc_name}
use Rattle.dump_files.specs.Outlets.{outside}
use Rattle.dump_plain.proofs.GoingLemmas.{late_dump}
use Rattle.dump_directory.specs.Directories.{toc_dat, data_out, directory_out, told}
use Rattle.dump_directory.proofs.SavingLemmas.{toc_part, toc_saves, saves_end, directory-is, untouched}
use Rattle.dump_directory.proofs.directory.directory_dump.Goals as goal

pub returns-in_err-put_toc-clause-err : goal.returns-in_err-put_toc-clause-err
returns-in_err-put_toc-clause-err g c = λ tree is beyond.
    let p = err_from_is_err_and c.from_residual.result c.from_residual.ensures.1 in
    let folder = c.args.folder.now in
    let due = directory_out tree folder c.args.head.now c.args.entries.now c.args.needed.now in
    let more = data_out tree folder c.args.entries.now c.args.needed.now in
    let before = outside (g.F.Files.tree c.args.files.now) (g.O.Sink.written c.args.out.now) in
    let now = outside (g.F.Files.tree c.put_toc.new.files) (g.O.Sink.written c.put_toc.new.out) in
    rw (p.1, p.2) (
      late_dump tree c.args.needed.now (told due) c.in_err-put_toc.field-0.0 c.in_err-put_toc.ensures.late,
      toc_part (toc_name folder) (toc_dat c.args.head.now (map filed c.args.entries.now)) due more before now (directory-is tree folder c.args.head.now c.args.entries.now c.args.needed.now) c.in_err-put_toc.ensures.err,
    )

pub returns-in_err-rows-clause-err : goal.returns-in_err-rows-clause-err
returns-in_err-rows-clause-err g c = λ tree is beyond.
    let p = err_from_is_err_and c.from_residual-in_err-rows.result c.from_residual-in_err-rows.ensures.1 in
    let folder = c.args.folder.now in
    let due = directory_out tree folder c.args.head.now c.args.entries.now c.args.needed.now in
    let more = data_out tree folder c.args.entries.now c.args.needed.now in
    let before = outside (g.F.Files.tree c.args.files.now) (g.O.Sink.written c.args.out.now) in
    let now = outside (g.F.Files.tree c.put_toc.new.files) (g.O.Sink.written c.put_toc.new.out) in
    let saves = toc_saves folder (toc_dat c.args.head.now (map filed c.args.entries.now)) due more before now (directory-is tree folder c.args.head.now c.args.entries.now c.args.needed.now) c.in_ok-put_toc.ensures.ok in
    let found = c.in_err-rows.ensures.err tree before due is beyond saves in
    rw (p.1, p.2) (found.0, found.1)

pub returns-clause-ok : goal.returns-clause-ok
returns-clause-ok g c = λ tree is beyond.
    let folder = c.args.folder.now in
    let due = directory_out tree folder c.args.head.now c.args.entries.now c.args.needed.now in
    let more = data_out tree folder c.args.entries.now c.args.needed.now in
    let before = outside (g.F.Files.tree c.args.files.now) (g.O.Sink.written c.args.out.now) in
    let now = outside (g.F.Files.tree c.put_toc.new.files) (g.O.Sink.written c.put_toc.new.out) in
    let now2 = outside (g.F.Files.tree c.put_data.new.files) (g.O.Sink.written c.put_data.new.out) in
    let saves = toc_saves folder (toc_dat c.args.head.now (map filed c.args.entries.now)) due more before now (directory-is tree folder c.args.head.now c.args.entries.now c.args.needed.now) c.in_ok-put_toc.ensures.ok in
    saves_end folder due before now2 c.in_ok-rows.rows (c.in_ok-rows.ensures.ok tree before due is beyond saves)

pub returns-then-not-can_be_archived-clause-err : goal.returns-then-not-can_be_archived-clause-err
returns-then-not-can_be_archived-clause-err g c = λ tree is beyond.
    (tt, untouched (directory_out tree c.args.folder.now c.args.head.now c.args.entries.now c.args.needed.now).files (outside (g.F.Files.tree c.args.files.now) (g.O.Sink.written c.args.out.now)))
