use Rattle.dump_tools.proofs.Archives.{piped_taken, piped_part}
use Rattle.dump_tools.proofs.restoring.piped_archive.Goals as goal

-- the archive stands on standard input
pub returns-in-None-clause-taken : goal.returns-in-None-clause-taken
returns-in-None-clause-taken g c = piped_taken (λ text. text.items) c.read_input.result c.args.archive.now _ _ c.in-None.is c.read_input.ensures.due c.read_input.ensures.whole c.read_input.ensures.part

pub returns-in-None-clause-part : goal.returns-in-None-clause-part
returns-in-None-clause-part g c = piped_part c.args.archive.now _ _ c.in-None.is c.read_input.ensures.part
