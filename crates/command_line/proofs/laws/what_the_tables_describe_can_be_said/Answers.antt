use Rattle.command_line.proofs.Saying.{said_line, line_reads}
use Rattle.command_line.proofs.laws.what_the_tables_describe_can_be_said.Goals as goal

pub returns-clause-said : goal.returns-clause-said
returns-clause-said c = said_line

pub returns-clause-reads : goal.returns-clause-reads
returns-clause-reads c = line_reads
