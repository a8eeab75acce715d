use Rattle.std.proofs.Common.{◌+◌, sym, ap, ◌∙◌}
use Rattle.std.proofs.lemmas.Result.{err_from_is_err_and}
use Rattle.cat_rows.specs.declared.catalogue.Catalogue.{Catalogue}
use Rattle.folder_io.specs.Folders.{texts_length}
use Rattle.folder_io.proofs.Dues.{call_free_count}
use Rattle.folder_io.proofs.Lengths.{bytes_read}
use Rattle.folder_io.proofs.reading.read_catalogue.Goals as goal

pub returns-in_err-cat-clause-read_count : goal.returns-in_err-cat-clause-read_count
returns-in_err-cat-clause-read_count g c =
    let p = err_from_is_err_and c.from_residual-in_err-cat.result c.from_residual-in_err-cat.ensures.1 in
    rw (p.1, p.2) (call_free_count Catalogue _ _ _ c.in_err-cat.ensures.call_free (c.in_ok-texts.ensures.read_count ∙ c.in_ok-check_marker.ensures.read_count))

pub returns-clause-bytes : goal.returns-clause-bytes
returns-clause-bytes g c = λ tree told.
    let mark = c.in_ok-check_marker.ensures.due tree told in
    let texts = c.in_ok-texts.ensures.due tree (c.in_ok-check_marker.ensures.kept ∙ told) in
    ap (λ n. 2 + n) (c.total_length.ensures ∙ ap texts_length c.deref-2.ensures.value) ∙ sym (bytes_read c.args.folder.now tree _ c.in_ok-texts.texts.items mark texts)
