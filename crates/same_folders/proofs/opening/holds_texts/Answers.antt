use Rattle.same_folders.proofs.opening.holds_texts.Goals as goal

pub returns-in-Ok-clause-same : goal.returns-in-Ok-clause-same
returns-in-Ok-clause-same g c = λ yes tree known. rw c.rows.ensures at (c.in-Ok.ensures.same yes tree known)
