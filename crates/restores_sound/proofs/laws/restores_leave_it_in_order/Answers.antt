use Rattle.std.proofs.Common.{[]}
use Rattle.restore_plan.specs.Order.{foreign_keys}
use Rattle.restores_sound.proofs.Restores.{planned, gone_on, stopped}
use Rattle.restores_sound.proofs.laws.restores_leave_it_in_order.Goals as goal

pub returns-clause-plans : goal.returns-clause-plans
returns-clause-plans c = λ named entries. planned (foreign_keys named) [] entries

pub returns-clause-serial : goal.returns-clause-serial
returns-clause-serial c = gone_on

pub returns-clause-until : goal.returns-clause-until
returns-clause-until c = stopped
