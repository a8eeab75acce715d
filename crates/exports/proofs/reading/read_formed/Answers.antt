use Rattle.std.proofs.Common.{sym}
use Rattle.exports.proofs.Steps.{formed_along, formed_read}
use Rattle.exports.proofs.reading.read_formed.Goals as goal

-- what is due of the tables that were read is due of the folder
pub returns-clause-due : goal.returns-clause-due
returns-clause-due g c = λ tree told.
    formed_along c.check_formed.result _ _ (sym (formed_read c.args.folder.now tree c.in_ok-read.read.cat (c.in_ok-read.ensures.due tree told))) c.check_formed.ensures.due
