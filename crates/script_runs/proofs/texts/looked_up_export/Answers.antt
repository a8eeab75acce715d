use Rattle.script_runs.proofs.texts.looked_up_export.Goals as goal

pub returns-clause-made : goal.returns-clause-made
returns-clause-made c = c.numbered_export.ensures.made

pub returns-clause-left : goal.returns-clause-left
returns-clause-left c = c.numbered_export.ensures.left
