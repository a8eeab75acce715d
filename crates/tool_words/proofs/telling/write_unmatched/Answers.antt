use Rattle.tool_words.proofs.telling.write_unmatched.Goals as goal

pub returns-clause-ok : goal.returns-clause-ok
returns-clause-ok g c = rw (c.place_of.ensures) at c.write_counted.ensures.ok
