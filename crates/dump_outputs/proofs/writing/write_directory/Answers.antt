use Rattle.std.proofs.Common.{ℕ, Some, ◌∙◌}
use Rattle.dump_files.specs.Outlets.{outside}
use Rattle.dump_directory.specs.Directories.{directory_out, told}
use Rattle.dump_outputs.proofs.PieceLemmas.{counts_stop}
use Rattle.dump_outputs.proofs.FormLemmas.{bad_stop, saved_out, saved_part}
use Rattle.dump_outputs.proofs.writing.write_directory.Goals as goal

pub returns-in-Ok-clause-ok : goal.returns-in-Ok-clause-ok
returns-in-Ok-clause-ok g c = λ tree known apart.
    let h = c.in-Ok.ensures.ok tree known apart in
    let due = directory_out tree c.args.folder.now c.args.head.now c.args.entries.now c.args.needed.now in
    (h.0, h.2 ∙ saved_out due.files (outside (g.F.Files.tree c.args.files.now) (g.O.Sink.written c.args.out.now)))

pub returns-in-Err-clause-err : goal.returns-in-Err-clause-err
returns-in-Err-clause-err g c = λ tree known apart.
    let h = c.in-Err.ensures.err tree known apart in
    let due = directory_out tree c.args.folder.now c.args.head.now c.args.entries.now c.args.needed.now in
    (bad_stop tree c.args.needed.now (told due) c.in-Err.stop h.0, saved_part due.files _ _ h.1)

pub returns-in-Err-clause-write_count : goal.returns-in-Err-clause-write_count
returns-in-Err-clause-write_count g c = counts_stop ℕ (Unit {0}) (Some c.args.folder.now) c.in-Err.stop _ _ _ _ (c.in-Err.ensures.write_count, c.in-Err.ensures.out_count)
