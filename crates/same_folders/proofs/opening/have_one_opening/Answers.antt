use Rattle.same_texts.specs.Alike.{HoldSame}
use Rattle.same_folders.proofs.Alike.{both_ok, export_alike, held_export, opened_one}
use Rattle.same_folders.proofs.opening.have_one_opening.Goals as goal

-- the rows of the first folder meet their tables
pub returns-clause-one : goal.returns-clause-one
returns-clause-one g c =
    let first = c.args.first.now in
    let texts = c.args.texts.now in
    both_ok c.rows_meet_tables.result _ _ _
    (λ meet hold meets yes tree known read. opened_one first tree texts (meets yes) (held_export first tree texts (hold yes) read))
    c.rows_meet_tables.ensures.hold c.rows_meet_tables.ensures.meet

-- and so do those of the second, whose texts are the same
pub returns-clause-same : goal.returns-clause-same
returns-clause-same g c =
    let laws = c.same_texts_are_read_alike.ensures in
    let first = c.args.first.now in
    let second = c.args.second.now in
    let texts = c.args.texts.now in
    both_ok c.rows_meet_tables.result _ _ _ (λ meet hold meets yes tree known read.
    let all : HoldSame first second tree texts.cat texts.rows = rw (c.catalogue.ensures, c.texts.ensures) at (c.in_ok-holds_texts.ensures.same c.if-not-branch.false tree known) in
    opened_one second tree texts (meets yes)
    (export_alike first second tree texts
    (laws.catalogue first second tree texts.cat texts.rows all)
    (laws.bytes first second tree texts.cat texts.rows all)
    (λ used. laws.rows first second tree texts.cat texts.rows used all) (held_export first tree texts (hold yes) read)))
    c.rows_meet_tables.ensures.hold c.rows_meet_tables.ensures.meet
