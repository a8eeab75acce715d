use Rattle.std.proofs.Common.{sym, ◌∙◌}
use Rattle.std.proofs.lemmas.Bool.{and_from}
use Rattle.plain_rows.proofs.keys.is_among.Goals as goal

pub returns-in-Some : goal.returns-in-Some
returns-in-Some c = λ yes all more among rest. rw c.in-Some.is (and_from _ _ (among c.in-Some.key.now (sym c.contains.ensures ∙ yes)) rest)
