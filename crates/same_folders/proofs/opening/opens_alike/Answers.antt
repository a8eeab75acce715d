use Rattle.std.proofs.Common.{ap, ◌∙◌}
use Rattle.std.proofs.lemmas.Result.{IfOk-weaker}
use Rattle.exports.specs.Exports.{Exported}
use Rattle.same_texts.specs.Alike.{HoldSame}
use Rattle.same_folders.proofs.Alike.{opened_alike}
use Rattle.same_folders.proofs.opening.opens_alike.Goals as goal

pub returns-clause-same : goal.returns-clause-same
returns-clause-same g c =
    let laws = c.same_texts_are_read_alike.ensures in
    IfOk-weaker c.holds_texts.result _ _ (λ _ held same tree known read.
    let first = c.args.first.now in
    let second = c.args.second.now in
    let one = c.args.one.now in
    let cat = c.catalogue-cat.ensures ∙ ap (λ (e : Exported). e.cat) c.export.ensures.export in
    let rows = c.rows.ensures.rows ∙ ap (λ (e : Exported). e.rows) c.export-2.ensures.export in
    let all : HoldSame first second tree one.cat one.rows = rw (cat, rows) at (held same tree known) in
    opened_alike first second tree one
    (laws.catalogue first second tree one.cat one.rows all)
    (laws.bytes first second tree one.cat one.rows all)
    (λ used. laws.rows first second tree one.cat one.rows used all) read)
    c.holds_texts.ensures.same
