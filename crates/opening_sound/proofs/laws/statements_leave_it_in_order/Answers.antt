use Rattle.opening_sound.proofs.Leaving.{stepped, carried, ran}
use Rattle.opening_sound.proofs.laws.statements_leave_it_in_order.Goals as goal

pub returns-clause-each : goal.returns-clause-each
returns-clause-each c = stepped

pub returns-clause-carried_out : goal.returns-clause-carried_out
returns-clause-carried_out c = carried

pub returns-clause-all : goal.returns-clause-all
returns-clause-all c = ran
