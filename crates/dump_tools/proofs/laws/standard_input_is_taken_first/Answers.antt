use Rattle.dump_tools.proofs.Staying.{later_none, unread_none}
use Rattle.dump_tools.proofs.laws.standard_input_is_taken_first.Goals as goal

pub returns : goal.returns
returns c = record { later = later_none; unread = unread_none }
