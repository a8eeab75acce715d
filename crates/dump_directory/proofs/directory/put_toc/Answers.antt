use Rattle.std.proofs.Common.{◌≡◌, ◌++◌, List, ℕ, map, ap, ◌∙◌}
use Rattle.std.proofs.lemmas.Result.{err_from_is_err_and}
use Rattle.archive_entries.specs.Extras.{filed}
use Rattle.fmt_directory.specs.Directories.{toc_name}
use Rattle.dump_files.specs.Outlets.{outside}
use Rattle.dump_directory.specs.Directories.{toc_dat}
use Rattle.dump_directory.proofs.SavingLemmas.{begun_as}
use Rattle.dump_directory.proofs.directory.put_toc.Goals as goal

pub returns-in_err-put_text-clause-err : goal.returns-in_err-put_text-clause-err
returns-in_err-put_text-clause-err g c =
    let p = err_from_is_err_and c.from_residual-in_err-put_text.result c.from_residual-in_err-put_text.ensures.1 in
    let whole = toc_dat c.args.head.now (map filed c.args.entries.now) in
    let text : c.deref.result.now ≡ whole = c.deref.ensures.value ∙ c.in_ok-write_filed.ensures ∙ ap (λ (l : List ℕ). l ++ whole) c.new-text.ensures.items in
    let name : c.in_ok-name.name ≡ toc_name c.args.folder.now = c.in_ok-name.ensures ∙ ap toc_name c.as_str.ensures in
    rw p.1 (begun_as c.in_ok-name.name (toc_name c.args.folder.now) c.deref.result.now whole (outside (g.F.Files.tree c.args.files.now) (g.O.Sink.written c.args.out.now)) (outside (g.F.Files.tree c.put_text.new.files) (g.O.Sink.written c.put_text.new.out)) name text c.in_err-put_text.ensures.err)
