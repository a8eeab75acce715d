use Rattle.std.proofs.Common.{[]}
use Rattle.std.specs.FinMap.{empty}
use Rattle.script_runs.proofs.Written.{stand_for, unwritten}
use Rattle.script_runs.proofs.texts.texts_of.Goals as goal

pub returns-clause-stand : goal.returns-clause-stand
returns-clause-stand c =
    let a = c.args in
    stand_for a.opening.now a.named.now a.current.now c.requires.current a.export.now.catalogue a.export.now.rows c.requires.made c.make_texts.result c.make_texts.ensures.reads c.make_texts.ensures.kept

pub returns-clause-unwritten : goal.returns-clause-unwritten
returns-clause-unwritten c =
    let a = c.args in
    unwritten a.opening.now a.named.now a.current.now c.requires.current a.export.now.catalogue a.export.now.rows c.requires.made
    (λ d ids number texts can among is of. c.exports_are_read.ensures a.opening.now a.named.now ids number d a.export.now.catalogue a.export.now.rows texts [] empty can among is of)
    c.make_texts.result c.make_texts.ensures.unread
