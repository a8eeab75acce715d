use Rattle.std.proofs.Common.{◌∙◌}
use Rattle.std.proofs.lemmas.Result.{IfOk-weaker}
use Rattle.same_folders.proofs.LinesRead.{as_one, hold_same}
use Rattle.same_folders.proofs.as_one.open_formed.Goals as goal

pub returns-clause-one : goal.returns-clause-one
returns-clause-one g c =
    let laws = c.same_texts_are_read_alike.ensures in
    let first = c.args.first.now in
    let second = c.args.second.now in
    let used = c.args.used in
    let cat = c.args.cat.now in
    let small = c.is_small.ensures c.if-not-is_small.false in
    let alike = c.in_ok-catalogues_are_same.ensures in
    IfOk-weaker c.lines_meet.result _ _ (λ meet all yes tree known tables formed bytes.
    let lines = all yes tree (alike.kept ∙ known) in
    let hold = hold_same first second tree cat used small lines (alike.same c.if-not-branch.false tree known) in
    as_one first second tree cat used small lines bytes tables formed
    (laws.catalogue first second tree cat _ hold) (laws.bytes first second tree cat _ hold) (λ n. laws.rows first second tree cat _ n hold))
    c.lines_meet.ensures.meet
