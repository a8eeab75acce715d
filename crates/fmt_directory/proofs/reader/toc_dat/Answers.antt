use Rattle.std.proofs.Common.{◌≡◌, ◌∙◌, true}
use Rattle.std.proofs.lemmas.Result.{err_from_is_err_and}
use Rattle.toc_layout.specs.Faults.{archive_fault}
use Rattle.toc_layout.specs.Heads.{head_seen}
use Rattle.fmt_directory.specs.Directories.{is_directory}
use Rattle.fmt_directory.proofs.Directories.{this_format, fails}
use Rattle.fmt_directory.proofs.reader.toc_dat.Goals as goal

pub returns-in_err-entries : goal.returns-in_err-entries
returns-in_err-entries c = λ folder.
    let p = err_from_is_err_and c.from_residual-in_err-entries.result c.from_residual-in_err-entries.ensures.1 in
    let h = head_seen c.in_ok-head.head in
    let same : is_directory h.format ≡ true = (cc) in
    rw (p.1, p.2) (fails folder c.args.bytes.now h c.in_ok-head.rest.now (archive_fault c.in_err-entries.field-0.0) c.in_ok-head.ensures same (c.in_err-entries.ensures folder h))

pub returns : goal.returns
returns c = λ folder.
    let h = head_seen c.in_ok-head.head in
    let same : is_directory h.format ≡ true = (cc) in
    this_format folder c.args.bytes.now h c.in_ok-head.rest.now c.in_ok-head.ensures same ∙ c.in_ok-entries.ensures folder h
