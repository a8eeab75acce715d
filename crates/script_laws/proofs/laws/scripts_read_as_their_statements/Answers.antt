use Rattle.script_laws.proofs.Entries.{script_reads}
use Rattle.script_laws.proofs.laws.scripts_read_as_their_statements.Goals as goal

pub returns : goal.returns
returns c = script_reads c.laid_out_statements_are_read.ensures c.what_was_read_can_be_written.ensures c.tests_are_exact.ensures.name
