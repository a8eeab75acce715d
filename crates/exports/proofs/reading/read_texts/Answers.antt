use Rattle.std.proofs.Common.{sym, ◌∙◌}
use Rattle.exports.proofs.Steps.{gives_along, tables_read}
use Rattle.exports.proofs.reading.read_texts.Goals as goal

-- what is due behind the tables is due of the folder
pub returns-clause-due : goal.returns-clause-due
returns-clause-due g c = λ tree told.
    gives_along c.read_behind.result _ _
    (sym (tables_read c.args.folder.now tree c.in_ok-read.read.cat (c.in_ok-read.ensures.due tree told)))
    (rw (c.in_ok-read.ensures.bytes tree told) at (c.read_behind.ensures.due tree (c.in_ok-read.ensures.kept ∙ told)))
