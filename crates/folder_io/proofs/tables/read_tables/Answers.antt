use Rattle.std.proofs.Common.{◌+◌, ◌<◌, take, drop, Ok, sym, ap, subst, ◌∙◌}
use Rattle.std.proofs.lemmas.Result.{err_from_is_err_and}
use Rattle.cat_rows.specs.Catalogues.{rows_in}
use Rattle.folder_io.specs.Folders.{rows_of, tables_of, catalogue_rows}
use Rattle.folder_io.proofs.Dues.{due_map}
use Rattle.folder_io.proofs.Steps.{GoesOn, gave, refused, ended}
use Rattle.folder_io.proofs.TableOrder.{put_at, as_many, table_at, all_rows}
use Rattle.folder_io.proofs.tables.read_tables.Goals as goal

pub returns-in_err-read_rows-clause-due : goal.returns-in_err-read_rows-clause-due
unfolding tables_of
returns-in_err-read_rows-clause-due c =
    let texts = c.args.texts.now in
    let i = c.loop-text.text-index in
    let text = c.text-item.result in
    let p = err_from_is_err_and c.from_residual.result c.from_residual.ensures.1 in
    rw (p.1, p.2) (due_map _ (rows_of text) (tables_of texts)
    (λ o e. refused rows_of texts (take i (catalogue_rows c.loop-text.cat)) i text o c.loop-text-test.true (sym c.text-item.is) c.loop-text.invariant e)
    c.in_err-read_rows.ensures.due)

pub loop-text-preserved : goal.loop-text-preserved
loop-text-preserved c =
    let texts = c.args.texts.now in
    let i = c.loop-text.text-index in
    let text = c.text-item.result in
    let cat = c.read_rows.new.cat in
    subst (λ done. GoesOn rows_of texts done (drop (i + 1) texts))
    (sym (put_at i text.table c.loop-text.cat cat (subst (λ n. i < n) (as_many texts c.requires) c.loop-text-test.true) (table_at i texts text c.requires c.loop-text-test.true (sym c.text-item.is)) c.read_rows.ensures.others))
    (gave rows_of texts (take i (catalogue_rows c.loop-text.cat)) i text (rows_in text.table cat) c.loop-text-test.true (sym c.text-item.is) c.loop-text.invariant c.in_ok-read_rows.ensures.due)

pub returns-clause-due : goal.returns-clause-due
unfolding tables_of
returns-clause-due c =
    let texts = c.args.texts.now in
    let i = c.loop-text.text-index in
    ended rows_of texts (take i (catalogue_rows c.loop-text.cat)) i c.loop-text-test.false c.loop-text.invariant
    ∙ ap Ok (all_rows i texts c.loop-text.cat c.requires c.loop-text-test.false)
