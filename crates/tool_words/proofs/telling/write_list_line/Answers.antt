use Rattle.tool_words.proofs.telling.write_list_line.Goals as goal

pub returns-clause-ok : goal.returns-clause-ok
returns-clause-ok g c = rw c.line_of.ensures at (rw c.format.ensures.text at (rw c.as_bytes.ensures.value at c.write_two.ensures.ok))
