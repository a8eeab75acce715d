use Rattle.command_line.proofs.Saying.{fault_is_answer}
use Rattle.command_line.proofs.laws.a_fault_or_a_command.Goals as goal

pub returns : goal.returns
returns c = fault_is_answer
